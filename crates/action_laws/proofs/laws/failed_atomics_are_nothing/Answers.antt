use Rattle.action_laws.proofs.Nothing as lemmas
use Rattle.action_laws.proofs.laws.failed_atomics_are_nothing.Goals as goal

pub returns : goal.returns
returns c = lemmas.failed-nothing
