-- Those marked so far, and those that are left, are all.
use Rattle.std.proofs.Common.{◌≡◌, drop, replicate, length, false}
use Rattle.type_table.specs.Identifiers.{part_types}
use Rattle.type_table.specs.Marks.{marked}
use Rattle.type_table.proofs.standing.mark_parts.Given as goal

abbrev pub invariant-loop-shape : goal.invariant-loop-shape
invariant-loop-shape l =
    marked l.marks (part_types (drop l.shape-index l.shape-items)) ≡ marked (replicate (length l.table.shapes) false) (part_types l.shape-items)
