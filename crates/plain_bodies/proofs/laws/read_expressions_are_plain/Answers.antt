use Rattle.plain_bodies.proofs.PlainReading as lemmas
use Rattle.plain_bodies.proofs.laws.read_expressions_are_plain.Goals as goal

pub returns : goal.returns
returns c = lemmas.expressions-plain
