-- Those marked so far, and those of the models that are left, are all.
use Rattle.std.proofs.Common.{◌≡◌, drop, replicate, length, false}
use Rattle.type_table.specs.Identifiers.{property_types}
use Rattle.type_table.specs.Marks.{marked}
use Rattle.type_table.proofs.standing.mark_properties.Given as goal

abbrev pub invariant-loop-model : goal.invariant-loop-model
invariant-loop-model l =
    marked l.marks (property_types (drop l.model-index l.model-items)) ≡ marked (replicate (length l.table.shapes) false) (property_types l.model-items)
