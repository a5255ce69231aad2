use Rattle.plain_views.proofs.PlainTrees as lemmas
use Rattle.plain_views.proofs.laws.trees_answer_plainly.Goals as goal

pub returns : goal.returns
returns c = lemmas.trees-plain
