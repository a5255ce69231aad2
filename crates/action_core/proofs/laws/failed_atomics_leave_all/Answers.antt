use Rattle.action_core.proofs.Failing as lemmas
use Rattle.action_core.proofs.laws.failed_atomics_leave_all.Goals as goal

pub returns : goal.returns
returns c = lemmas.failed-atomics
