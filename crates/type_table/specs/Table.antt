-- The types of a schema, as a table by numbers.
use Rattle.std.specs.Prelude.{◌≡◌, ℕ, ◌<◌, List, [], ◌∷◌, length, map, slice_get, Option, Some, None, IfSome, All}
use Rattle.snap_core.specs.declared.number.ModelNo.{ModelNo}
use Rattle.snap_core.specs.declared.number.TypeNo.{TypeNo}
use Rattle.snap_core.specs.declared.snap.Snap.{Snap}
use Rattle.snap_core.specs.Value.{Value, IsPlain, AreAscending}
use Rattle.snap_core.specs.View.{view}
use Rattle.type_table.specs.declared.shape.Shape.{Shape}
use Rattle.type_table.specs.declared.shape.Shape.TheVariants.{Literal, Optional, Maybe, MaybeNull, Union, Refinement, Array, Map, Model, Reference, Safe, Named}
use Rattle.type_table.specs.declared.shape.Property.{Property}
use Rattle.type_table.specs.declared.shape.ModelType.{ModelType}

-- types by their numbers, and models by theirs
pub record Table : Type 0 where
  pub shapes : List Shape
  pub models : List ModelType

-- the types of a schema: the table, the model that documents are of, and what each optional type makes
-- where no value is given
pub record Catalog : Type 0 where
  pub table : Table
  pub root : ModelNo
  pub defaults : List (Option Snap)

-- a table that is being made, in which some types have no shape yet
pub record Plan : Type 0 where
  pub shapes : List (Option Shape)
  pub models : List ModelType

-- a finished table as a plan
abbrev pub plan_of : Table → Plan
plan_of t = record { shapes = map Some t.shapes; models = t.models }

-- the shape of a type
abbrev pub shape_at : Table → ℕ → Option Shape
shape_at table t = slice_get table.shapes t

-- the properties of a model; none where there is no such model
abbrev pub properties_of : Table → ℕ → List Property
properties_of table m = properties_in (slice_get table.models m) where
  properties_in : Option ModelType → List Property
  properties_in (Some model) = model.properties
  properties_in _ = []

-- what the optional type of this number makes where no value is given, if it is known
abbrev pub default_at : List (Option Snap) → ℕ → Option Value
default_at defaults t = known (slice_get defaults t) where
  known : Option (Option Snap) → Option Value
  known (Some (Some s)) = Some (view s)
  known _ = None

-- the types that a shape leads on to with no list, record or model between
abbrev pub leads_of : Shape → List TypeNo
leads_of (Named u) = u ∷ []
leads_of (Optional u d) = u ∷ []
leads_of (Maybe u) = u ∷ []
leads_of (MaybeNull u) = u ∷ []
leads_of (Refinement u cs) = u ∷ []
leads_of (Union ms) = ms
leads_of _ = []

-- the type of a list's items, of a record's values, or that a reference leads to
abbrev pub types_below : Shape → List TypeNo
types_below (Array u) = u ∷ []
types_below (Map u) = u ∷ []
types_below (Reference u) = u ∷ []
types_below (Safe u) = u ∷ []
types_below _ = []

-- the model that a shape names is one of these
abbrev pub NamesModel : List ModelType → Shape → Type 0
NamesModel models (Model m) = m.0 < length models
NamesModel models _ = Unit {0}

-- the numbers of the types that a shape names are below a bound
pub record NamesTypes (count : ℕ) (shape : Shape) : Type 0 where
  pub leads : All (λ (t : TypeNo). t.0 < count) (leads_of shape)
  pub parts : All (λ (t : TypeNo). t.0 < count) (types_below shape)

-- literals and defaults are plain
abbrev pub HoldsPlain : Shape → Type 0
HoldsPlain (Literal l) = IsPlain (view l)
HoldsPlain (Optional u d) = IsPlain (view d)
HoldsPlain _ = Unit {0}

-- the names of properties
abbrev pub names_of : List Property → List (List ℕ)
names_of ps = map (λ p. p.name) ps

-- the names stand in strictly ascending order
abbrev pub AreNamed : List Property → Type 0
AreNamed ps = AreAscending (names_of ps)

-- the numbers of the properties' types are below a bound
abbrev pub AreTyped : ℕ → List Property → Type 0
AreTyped count properties = All (λ (p : Property). p.of.0 < count) properties

-- a model of the plan under its number
pub record IsModelOf (plan : Plan) (number : ℕ) (model : ModelType) : Type 0 where
  pub named : AreNamed model.properties
  pub typed : AreTyped (length plan.shapes) model.properties
  pub own : slice_get plan.shapes model.own.0 ≡ Some (Some (Model (record { 0 = number })))

-- a shape of the plan
pub record IsShapeOf (plan : Plan) (shape : Shape) : Type 0 where
  pub model : NamesModel plan.models shape
  pub types : NamesTypes (length plan.shapes) shape
  pub plain : HoldsPlain shape

-- the shapes and the models name what is in the plan
pub record IsBegun (plan : Plan) : Type 0 where
  pub shapes : All (λ shape. IfSome shape (IsShapeOf plan)) plan.shapes
  pub models : (number : ℕ) (model : ModelType) → slice_get plan.models number ≡ Some model
      → IsModelOf plan number model
