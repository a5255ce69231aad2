use Rattle.type_table.proofs.ApartLemmas.{AddsLiteral-none}
use Rattle.type_table.proofs.tags.add_literal.Goals as goal

pub returns-in-None : goal.returns-in-None
returns-in-None c = λ others known. rw c.in-None.is (AddsLiteral-none _ others)

pub returns-in-Some : goal.returns-in-Some
returns-in-Some c = rw c.in-Some.is c.add_unless_there.ensures
