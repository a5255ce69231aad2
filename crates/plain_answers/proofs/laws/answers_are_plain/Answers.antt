use Rattle.plain_answers.proofs.Evaluations as lemmas
use Rattle.plain_answers.proofs.laws.answers_are_plain.Goals as goal

pub returns : goal.returns
returns c = lemmas.answers-plain
