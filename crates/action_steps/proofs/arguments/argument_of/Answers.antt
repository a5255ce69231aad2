use Rattle.action_steps.proofs.PlainParts.{list-plain}
use Rattle.action_steps.proofs.arguments.argument_of.Goals as goal

pub value_argument-requires-in-Some : goal.value_argument-requires-in-Some
value_argument-requires-in-Some c =
    record { plain = list-plain c.args.x.now c.in-Several.values c.in_ok-items-in-Several.field-0 c.in-Some.items c.in-Several.is c.in-Some.is (rw c.as_slice.ensures at c.in_ok-items-in-Several.ensures) c.requires.plain }
