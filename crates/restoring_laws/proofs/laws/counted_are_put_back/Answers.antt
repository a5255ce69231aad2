use Rattle.restoring_laws.proofs.InTurn as lemmas
use Rattle.restoring_laws.proofs.laws.counted_are_put_back.Goals as goal

pub returns : goal.returns
returns c = lemmas.counted-put
