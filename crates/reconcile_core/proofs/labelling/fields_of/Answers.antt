use Rattle.reconcile_core.proofs.Labellings.{record-stays}
use Rattle.reconcile_core.proofs.labelling.fields_of.Goals as goal

pub returns-in-Record : goal.returns-in-Record
returns-in-Record c = rw (c.in-Record.is, c.as_slice.ensures) (record-stays _ c.in-Record.parts)
