-- Those marked so far, and those that are left, are all.
use Rattle.std.proofs.Common.{◌≡◌, length}
use Rattle.std.specs.List.{filter}
use Rattle.type_table.specs.Identifiers.{types_in, identifies}
use Rattle.type_table.specs.Marks.{marked}
use Rattle.type_table.proofs.standing.mark_identifiers.Given as goal

abbrev pub invariant-loop-property : goal.invariant-loop-property
invariant-loop-property l = marked l.marks (types_in (filter (identifies l.table) l.rest)) ≡ marked l.initial.marks (types_in (filter (identifies l.table) l.properties))

abbrev pub decreases-loop-property : goal.decreases-loop-property
decreases-loop-property l = length l.rest
