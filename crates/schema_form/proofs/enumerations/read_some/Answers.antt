use Rattle.std.proofs.Common.{sym, ◌∙◌}
use Rattle.schema_form.proofs.Shapes.{enumeration-some}
use Rattle.schema_form.proofs.enumerations.read_some.Goals as goal

pub returns-clause-finds : goal.returns-clause-finds
returns-clause-finds c = rw (enumeration-some c.args.items.now (sym c.is_empty.ensures ∙ c.if-is_empty.false)) c.read_each.ensures.finds
