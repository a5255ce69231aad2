-- The inner type of what is reached is that of the whole.
use Rattle.std.proofs.Common.{◌≡◌, ◌-◌}
use Rattle.tree_core.specs.Asking.{inner_within}
use Rattle.tree_reading.proofs.typing.inner_type.Given as goal

abbrev pub invariant-loop : goal.invariant-loop
invariant-loop l = inner_within l.types.table (l.end - l.counter) l.at.0 ≡ inner_within l.types.table l.end l.fn.t.0
