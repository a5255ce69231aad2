-- Those marked so far, and those that are left, are all.
use Rattle.std.proofs.Common.{◌≡◌, drop}
use Rattle.type_table.specs.Identifiers.{types_in}
use Rattle.type_table.specs.Marks.{marked}
use Rattle.type_table.proofs.standing.mark_each.Given as goal

abbrev pub invariant-loop-property : goal.invariant-loop-property
invariant-loop-property l = marked l.marks (types_in (drop l.property-index l.properties)) ≡ marked l.initial.marks (types_in l.properties)
