use Rattle.plain_bodies.proofs.PlainStatements as lemmas
use Rattle.plain_bodies.proofs.laws.read_bodies_are_plain.Goals as goal

pub returns : goal.returns
returns c = lemmas.bodies-plain
