-- The places so far are those of the models so far.
use Rattle.std.proofs.Common.{◌≡◌, map, take}
use Rattle.type_table.specs.IdentifierPlaces.{identifier_place}
use Rattle.type_table.proofs.identifiers.identifier_places.Given as goal

abbrev pub invariant-loop-model : goal.invariant-loop-model
invariant-loop-model l =
    l.found ≡ map (λ model. identifier_place (record { shapes = l.fn.shapes; models = l.fn.models }) model.properties) (take l.model-index l.models)
