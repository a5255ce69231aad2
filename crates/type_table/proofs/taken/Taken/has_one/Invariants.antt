-- A text that is taken is among those that are left.
use Rattle.std.proofs.Common.{◌≡◌, map, drop}
use Rattle.std.specs.List.{list_any}
use Rattle.snap_core.specs.Value.{text}
use Rattle.type_table.specs.Taking.{is_taken}
use Rattle.type_table.proofs.taken.Taken.has_one.Given as goal

abbrev pub invariant-loop-one : goal.invariant-loop-one
invariant-loop-one l = list_any (is_taken l.self) (map text (drop l.one-index l.one-items)) ≡ list_any (is_taken l.self) (map text l.texts)
