use Rattle.plain_views.proofs.PlainTrees as lemmas
use Rattle.plain_views.proofs.laws.tree_sights_are_plain.Goals as goal

pub returns : goal.returns
returns c = lemmas.sight-plain
