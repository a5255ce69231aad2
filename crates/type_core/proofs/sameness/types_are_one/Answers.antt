use Rattle.type_core.proofs.Oneness as lemmas
use Rattle.type_core.proofs.sameness.types_are_one.Goals as goal

pub returns : goal.returns
returns c = lemmas.types_are_one
