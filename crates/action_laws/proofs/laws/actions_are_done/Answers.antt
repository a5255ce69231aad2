use Rattle.action_laws.proofs.Leading as lemmas
use Rattle.action_laws.proofs.laws.actions_are_done.Goals as goal

pub returns : goal.returns
returns c = lemmas.actions-done
