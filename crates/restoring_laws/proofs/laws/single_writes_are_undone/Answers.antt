use Rattle.restoring_laws.proofs.Single as lemmas
use Rattle.restoring_laws.proofs.laws.single_writes_are_undone.Goals as goal

pub returns : goal.returns
returns c = lemmas.writes-undone
