-- No property so far identifies.
use Rattle.std.proofs.Common.{◌≡◌, ℕ, ◌<◌, List, false, get_or}
use Rattle.type_table.specs.declared.shape.Property.{Property}
use Rattle.type_table.specs.declared.shape.ModelType.{ModelType}
use Rattle.type_table.specs.Identifiers.{identifies}
use Rattle.type_table.proofs.identifiers.identifier_place.Given as goal

abbrev pub invariant-loop-place : goal.invariant-loop-place
invariant-loop-place l =
    (models : List ModelType) (k : ℕ) (d : Property) → k < l.place → identifies (record { shapes = l.fn.shapes; models = models }) (get_or l.fn.properties k d) ≡ false
