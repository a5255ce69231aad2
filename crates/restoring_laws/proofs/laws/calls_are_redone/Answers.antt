use Rattle.restoring_laws.proofs.Undone as lemmas
use Rattle.restoring_laws.proofs.laws.calls_are_redone.Goals as goal

pub returns : goal.returns
returns c = lemmas.calls-redone
