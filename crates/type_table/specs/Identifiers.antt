-- Identifiers of models, references to them, and where types stand directly.
use Rattle.std.specs.Prelude.{ℕ, List, [], ◌∷◌, ◌++◌, map, eqb, Bool, true, false, ◌&&◌, ◌||◌, not, is_none, Option, Some, None, if◌then◌else◌}
use Rattle.std.specs.Fmt.{signed_decimal}
use Rattle.std.specs.List.{list_any, filter, find}
use Rattle.std.specs.Str.{bytes_eq}
use Rattle.snap_core.specs.Value.{Value, integer, text, dict, value_at, Fields}
use Rattle.snap_core.specs.declared.ident.Ident.{Ident}
use Rattle.snap_core.specs.declared.ident.Ident.TheVariants as ident
use Rattle.snap_core.specs.declared.number.TypeNo.{TypeNo}
use Rattle.type_table.specs.declared.shape.Shape.{Shape}
use Rattle.type_table.specs.declared.shape.Shape.TheVariants.{Identifier, IdentifierNumber, Array, Map, Model, Reference, Safe}
use Rattle.type_table.specs.declared.shape.Property.{Property}
use Rattle.type_table.specs.declared.shape.ModelType.{ModelType}
use Rattle.type_table.specs.Table.{Table, shape_at, properties_of}

-- an identifier type: of texts, or of integers
abbrev pub is_identifier : Option Shape → Bool
is_identifier (Some Identifier) = true
is_identifier (Some IdentifierNumber) = true
is_identifier _ = false

-- a property whose type is directly an identifier type
abbrev pub identifies : Table → Property → Bool
identifies table p = is_identifier (shape_at table p.of.0)

-- the identifier of a model: its first such property
abbrev pub identifier_of : Table → ℕ → Option Property
identifier_of table m = find (identifies table) (properties_of table m)

-- the identifier of the model that a shape is
abbrev pub identifier_in : Table → Option Shape → Option Property
identifier_in table (Some (Model m)) = identifier_of table m.0
identifier_in table _ = None

-- the shape of a property's type
abbrev pub shape_of : Table → Option Property → Option Shape
shape_of table (Some p) = shape_at table p.of.0
shape_of table None = None

-- a value of an identifier's kind: a text, or an integer
abbrev pub is_of_kind : Option Shape → Value → Bool
is_of_kind (Some Identifier) (text s) = true
is_of_kind (Some IdentifierNumber) (integer z) = true
is_of_kind _ v = false

-- a value of the kind of the identifiers of the model that a type is directly
abbrev pub is_key : Table → TypeNo → Value → Bool
is_key table u v = is_of_kind (shape_of table (identifier_in table (shape_at table u.0))) v

-- a text or an integer as an identifier
abbrev pub ident_of : Option Value → Option Ident
ident_of (Some (text s)) = Some (ident.Text s)
ident_of (Some (integer z)) = Some (ident.Number z)
ident_of _ = None

-- the identifier that a record holds under a property
abbrev pub ident_under : Option Property → Fields → Option Ident
ident_under (Some p) ms = ident_of (value_at p.name ms)
ident_under None ms = None

-- the identifier of a value that a shape judges: of a record at a model that has one
abbrev pub ident_in : Table → Option Shape → Value → Option Ident
ident_in table (Some (Model m)) (dict a ms) = ident_under (identifier_of table m.0) ms
ident_in table shape v = None

-- the text that an identifier is spelled by: a text by itself, a number in decimal
abbrev pub ident_text : Ident → List ℕ
ident_text (ident.Text s) = s
ident_text (ident.Number z) = signed_decimal z

-- a value with an identifier stands under the identifier's text
abbrev pub is_keyed : List ℕ → Option Ident → Bool
is_keyed key (Some i) = bytes_eq key (ident_text i)
is_keyed key None = true

abbrev pub is_safe : Option Shape → Bool
is_safe (Some (Safe u)) = true
is_safe _ = false

abbrev pub is_reference : Option Shape → Bool
is_reference (Some (Reference u)) = true
is_reference (Some (Safe u)) = true
is_reference _ = false

-- one of the types has this number
abbrev pub has_number : ℕ → List TypeNo → Bool
has_number t types = list_any (λ (u : TypeNo). eqb t u.0) types

-- the types of properties
abbrev pub types_in : List Property → List TypeNo
types_in ps = map (λ (p : Property). p.of) ps

-- the types of the models' properties
abbrev pub property_types : List ModelType → List TypeNo
property_types [] = []
property_types (m ∷ ms) = types_in m.properties ++ property_types ms

-- whether a type is directly some property's type
abbrev pub of_property : Table → ℕ → Bool
of_property table t = has_number t (property_types table.models)

-- A safe reference that can't be cleared: it is no property's type.
abbrev pub is_firm : Table → ℕ → Bool
is_firm table t = is_safe (shape_at table t) && not (of_property table t)

-- the types of an array's items and of a map's values
abbrev pub part_type : Shape → List TypeNo
part_type (Array u) = u ∷ []
part_type (Map u) = u ∷ []
part_type _ = []

abbrev pub part_types : List Shape → List TypeNo
part_types [] = []
part_types (s ∷ ss) = part_type s ++ part_types ss

-- the identifiers of a model behind its first one
abbrev pub later_identifiers : Table → List Property → List Property
later_identifiers table [] = []
later_identifiers table (p ∷ ps) = if identifies table p then filter (identifies table) ps else later_identifiers table ps

abbrev pub second_types : Table → List ModelType → List TypeNo
second_types table [] = []
second_types table (m ∷ ms) = types_in (later_identifiers table m.properties) ++ second_types table ms

-- An identifier type that is directly no property's, or that of a second identifier of its model.
abbrev pub is_misplaced : Table → ℕ → Bool
is_misplaced table t =
    is_identifier (shape_at table t)
    && (not (of_property table t) || has_number t (second_types table table.models))

-- A reference misleads where its type is directly no model with an identifier, a safe one also where it
-- can't be cleared: it is directly no property's type, no array's items' and no map's values'.
abbrev pub misleads : Table → ℕ → Bool
misleads table t = misled (shape_at table t) where
  misled : Option Shape → Bool
  misled (Some (Reference u)) = is_none (identifier_in table (shape_at table u.0))
  misled (Some (Safe u)) =
      is_none (identifier_in table (shape_at table u.0))
      || not (of_property table t || has_number t (part_types table.shapes))
  misled _ = false
