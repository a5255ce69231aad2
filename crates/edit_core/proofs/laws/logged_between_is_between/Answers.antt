use Rattle.edit_core.proofs.LoggedBetween as lemmas
use Rattle.edit_core.proofs.laws.logged_between_is_between.Goals as goal

pub returns : goal.returns
returns c = λ old new. lemmas.between-logged old new
