-- Where the identifiers of models stand among their properties.
use Rattle.std.specs.Prelude.{ℕ, List, map, slice_get, Option, Some, None}
use Rattle.std.specs.List.{position}
use Rattle.type_table.specs.declared.shape.Property.{Property}
use Rattle.type_table.specs.declared.shape.ModelType.{ModelType}
use Rattle.type_table.specs.Table.{Table}
use Rattle.type_table.specs.Identifiers.{identifies}

-- the place of a model's identifier, if it has one
abbrev pub identifier_place : Table → List Property → Option ℕ
identifier_place table properties = position (identifies table) properties

-- the same of each model
abbrev pub identifier_places : Table → List (Option ℕ)
identifier_places table = map (λ (model : ModelType). identifier_place table model.properties) table.models

-- the property at the place that is kept for its model, if there is one
abbrev pub property_kept : List Property → Option (Option ℕ) → Option Property
property_kept properties (Some (Some place)) = slice_get properties place
property_kept properties _ = None
