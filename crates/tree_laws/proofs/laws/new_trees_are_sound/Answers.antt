use Rattle.tree_laws.proofs.NewTrees as lemmas
use Rattle.tree_laws.proofs.laws.new_trees_are_sound.Goals as goal

pub returns : goal.returns
returns c = lemmas.new-sound
