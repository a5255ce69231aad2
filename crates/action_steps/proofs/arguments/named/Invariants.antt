-- The type that is reached, names followed, is that of the whole.
use Rattle.std.proofs.Common.{◌≡◌, ◌-◌}
use Rattle.type_table.specs.Names.{named_within}
use Rattle.action_steps.proofs.arguments.named.Given as goal

abbrev pub invariant-loop : goal.invariant-loop
invariant-loop l = named_within l.types.table (l.end - l.counter) l.at.0 ≡ named_within l.types.table l.end l.fn.t.0
