-- No type is marked yet, and the identifiers behind the first one are those of what is left.
use Rattle.std.proofs.Common.{◌≡◌, length}
use Rattle.type_table.specs.Identifiers.{later_identifiers}
use Rattle.type_table.proofs.standing.mark_later.Given as goal

abbrev pub invariant-loop-property : goal.invariant-loop-property
invariant-loop-property l = (l.marks ≡ l.initial.marks) × (later_identifiers l.table l.rest ≡ later_identifiers l.table l.properties)

abbrev pub decreases-loop-property : goal.decreases-loop-property
decreases-loop-property l = length l.rest
