use Rattle.restoring_laws.proofs.InTurn as lemmas
use Rattle.restoring_laws.proofs.laws.putting_back_applies.Goals as goal

pub returns : goal.returns
returns c = lemmas.applies
