use Rattle.reconcile_core.proofs.Labellings.{array-stays}
use Rattle.reconcile_core.proofs.labelling.items_of.Goals as goal

pub returns-in-Array : goal.returns-in-Array
returns-in-Array c = rw (c.in-Array.is, c.as_slice.ensures) (array-stays _ c.in-Array.parts)
