use Rattle.doc_core.proofs.Atomic.{all-or-nothing}
use Rattle.doc_core.proofs.laws.atomics_keep_all_or_nothing.Goals as goal

pub returns : goal.returns
returns c = all-or-nothing c.failed_atomics_are_nothing.ensures
