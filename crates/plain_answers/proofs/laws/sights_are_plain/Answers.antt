use Rattle.plain_answers.proofs.Sights as lemmas
use Rattle.plain_answers.proofs.laws.sights_are_plain.Goals as goal

pub returns : goal.returns
returns c = lemmas.sight-plain
