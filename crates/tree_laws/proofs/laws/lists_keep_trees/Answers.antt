use Rattle.tree_laws.proofs.TreeRight as lemmas
use Rattle.tree_laws.proofs.laws.lists_keep_trees.Goals as goal

pub returns : goal.returns
returns c = lemmas.lists-keep
