-- The type that is reached, names followed, is that of the whole.
use Rattle.std.proofs.Common.{◌≡◌, ◌-◌}
use Rattle.type_table.specs.Names.{named_within}
use Rattle.type_table.proofs.table.Table.circled.Given as goal

abbrev pub invariant-loop : goal.invariant-loop
invariant-loop l = named_within l.self (l.end - l.counter) l.at.0 ≡ named_within l.self l.end l.fn.t.0
