use Rattle.edit_core.proofs.ItemSetting as lemmas
use Rattle.edit_core.proofs.laws.items_are_set_alone.Goals as goal

pub returns : goal.returns
returns c = λ typing s. lemmas.sets-one typing s
