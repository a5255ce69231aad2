use Rattle.restoring_laws.proofs.InTurn as lemmas
use Rattle.restoring_laws.proofs.laws.each_is_applied.Goals as goal

pub returns : goal.returns
returns c = lemmas.each
