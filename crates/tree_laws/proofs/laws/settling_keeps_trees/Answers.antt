use Rattle.tree_laws.proofs.SettlingSound as lemmas
use Rattle.tree_laws.proofs.laws.settling_keeps_trees.Goals as goal

pub returns : goal.returns
returns c = lemmas.settling-keeps
