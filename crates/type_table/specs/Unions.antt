-- Unions: how their members are told apart, and which of them a value chooses.
use Rattle.std.specs.Prelude.{◌≡◌, ℕ, nat_le, IsTrue, Contains, List, [], ◌∷◌, length, map, Bool, true, false, ◌&&◌, not, Option, Some, None, is_some, if◌then◌else◌}
use Rattle.std.specs.List.{list_any, list_all, filter, find}
use Rattle.std.specs.Ordering.{int_eq}
use Rattle.std.specs.Str.{bytes_eq}
use Rattle.snap_core.specs.Value.{Value, null, boolean, integer, text, list, dict, value_at, Fields}
use Rattle.snap_core.specs.View.{view}
use Rattle.snap_core.specs.declared.number.TypeNo.{TypeNo}
use Rattle.snap_core.specs.declared.number.ModelNo.{ModelNo}
use Rattle.type_table.specs.declared.shape.Shape.{Shape}
use Rattle.type_table.specs.declared.shape.Shape.TheVariants.{Str, Integer, Boolean, Null, Literal, Enumeration, Identifier, IdentifierNumber, Frozen, Maybe, MaybeNull, Union, Refinement, Array, Map, Model, Reference, Safe}
use Rattle.type_table.specs.declared.shape.Property.{Property}
use Rattle.type_table.specs.Table.{Table, shape_at, properties_of, names_of}
use Rattle.type_table.specs.Names.{shape_by}
use Rattle.type_table.specs.Identifiers.{is_key}

-- equal scalars; a list or a record is no scalar
abbrev pub is_same : Value → Value → Bool
is_same null null = true
is_same (boolean true) (boolean true) = true
is_same (boolean false) (boolean false) = true
is_same (integer y) (integer z) = int_eq y z
is_same (text s) (text u) = bytes_eq s u
is_same _ _ = false

-- neither a list nor a record
abbrev pub is_scalar : Value → Bool
is_scalar (list a ps) = false
is_scalar (dict a ms) = false
is_scalar v = true

-- a refinement takes its base's kind: texts or integers
abbrev pub is_based : Option Shape → Value → Bool
is_based (Some Str) (text s) = true
is_based (Some Integer) (integer z) = true
is_based _ _ = false

-- whether a shape takes a scalar, conditions aside
abbrev pub takes : Table → Option Shape → Value → Bool
takes table (Some Str) (text s) = true
takes table (Some Integer) (integer z) = true
takes table (Some Boolean) (boolean b) = true
takes table (Some Null) null = true
takes table (Some (Literal l)) v = is_same (view l) v
takes table (Some (Enumeration ts)) (text s) = list_any (bytes_eq s) ts
takes table (Some (Refinement u cs)) v = is_based (shape_by table u.0) v
takes table (Some Frozen) v = true
takes table (Some (Maybe u)) null = true
takes table (Some (MaybeNull u)) null = true
takes table (Some Identifier) (text s) = true
takes table (Some IdentifierNumber) (integer z) = true
takes table (Some (Reference u)) v = is_key table u v
takes table (Some (Safe u)) null = true
takes table (Some (Safe u)) v = is_key table u v
takes table _ v = false

-- whether a shape is an array, or a map, and which model it is
abbrev pub is_array : Option Shape → Bool
is_array (Some (Array u)) = true
is_array _ = false

abbrev pub is_map : Option Shape → Bool
is_map (Some (Map u)) = true
is_map _ = false

abbrev pub model_of_shape : Option Shape → Option ModelNo
model_of_shape (Some (Model m)) = Some m
model_of_shape _ = None

-- the property of a name
abbrev pub property_at : List ℕ → List Property → Option Property
property_at name ps = find (λ p. bytes_eq name p.name) ps

-- the literal that a shape is
abbrev pub literal_in : Option Shape → Option Value
literal_in (Some (Literal l)) = Some (view l)
literal_in _ = None

-- the literal that a property of this name is, names followed
abbrev pub literal_by : Table → Option Property → Option Value
literal_by table (Some p) = literal_in (shape_by table p.of.0)
literal_by table None = None

abbrev pub literal_at : Table → List ℕ → ModelNo → Option Value
literal_at table name m = literal_by table (property_at name (properties_of table m.0))

-- a member that is a model, in front of the others
abbrev pub model_before : TypeNo → Option ModelNo → List (TypeNo × ModelNo) → List (TypeNo × ModelNo)
model_before t (Some m) rest = (t, m) ∷ rest
model_before t None rest = rest

-- the models among the members, each beside its member
abbrev pub models_of : Table → List TypeNo → List (TypeNo × ModelNo)
models_of table [] = []
models_of table (t ∷ ts) = model_before t (model_of_shape (shape_by table t.0)) (models_of table ts)

-- whether a literal, if there is one, is the value
abbrev pub is_literal : Value → Option Value → Bool
is_literal v (Some l) = is_same v l
is_literal v None = false

-- each is a literal, and no two are the same
abbrev pub all_differ : List (Option Value) → Bool
all_differ [] = true
all_differ (None ∷ vs) = false
all_differ (Some v ∷ vs) = not (list_any (is_literal v) vs) && all_differ vs

-- each of the models has a literal property of this name, and the literals differ
abbrev pub tells_apart : Table → List (TypeNo × ModelNo) → List ℕ → Bool
tells_apart table ms name = all_differ (map (λ m. literal_at table name m.1) ms)

-- the tag of two or more models: the first name by bytes that tells them apart
abbrev pub tag_of : Table → List (TypeNo × ModelNo) → Option (List ℕ)
tag_of table (m ∷ n ∷ ms) = find (tells_apart table (m ∷ n ∷ ms)) (names_of (properties_of table m.1.0))
tag_of table _ = None

-- the tag of a union
abbrev pub tag_in : Table → Option Shape → Option (List ℕ)
tag_in table (Some (Union ms)) = tag_of table (models_of table ms)
tag_in table _ = None

-- the first model whose literal under the tag is this value
abbrev pub tagged : Table → List (TypeNo × ModelNo) → List ℕ → Value → Option TypeNo
tagged table [] tag v = None
tagged table (m ∷ ms) tag v =
    if is_literal v (literal_at table tag m.1) then Some m.0 else tagged table ms tag v

-- one model alone
abbrev pub only_model : List (TypeNo × ModelNo) → Option TypeNo
only_model (m ∷ []) = Some m.0
only_model _ = None

-- the model whose literal under the tag is the record's value there
abbrev pub chosen_by_field : Table → List (TypeNo × ModelNo) → List ℕ → Option Value → Option TypeNo
chosen_by_field table ms tag (Some v) = tagged table ms tag v
chosen_by_field table ms tag None = None

-- the model that a record chooses: by the tag where there is one, otherwise the one model
abbrev pub chosen_by_tag : Table → List (TypeNo × ModelNo) → Option (List ℕ) → Fields → Option TypeNo
chosen_by_tag table ms (Some tag) given = chosen_by_field table ms tag (value_at tag given)
chosen_by_tag table ms None given = only_model ms

abbrev pub chosen_model : Table → List (TypeNo × ModelNo) → Fields → Option TypeNo
chosen_model table ms given = chosen_by_tag table ms (tag_of table ms) given

-- the member that a record chooses: the map, or a model
abbrev pub chosen_for_record : Table → List TypeNo → Option TypeNo → Fields → Option TypeNo
chosen_for_record table ms (Some t) given = Some t
chosen_for_record table ms None given = chosen_model table (models_of table ms) given

-- The member that a value chooses: the one that takes the scalar, the array for a list, the map or a model
-- for a record.
abbrev pub chosen : Table → List TypeNo → Value → Option TypeNo
chosen table ms (list a ps) = find (λ t. is_array (shape_by table t.0)) ms
chosen table ms (dict a given) = chosen_for_record table ms (find (λ t. is_map (shape_by table t.0)) ms) given
chosen table ms v = find (λ t. takes table (shape_by table t.0) v) ms

-- the same at a shape, where it is a union
abbrev pub chosen_by : Table → Option Shape → Value → Option TypeNo
chosen_by table (Some (Union ms)) v = chosen table ms v
chosen_by table _ v = None

-- which scalars a member takes: all texts, all integers, all booleans, or just these
pub data Scalars : Type 0 where
  texts : Scalars
  integers : Scalars
  booleans : Scalars
  these : List Value → Scalars

abbrev pub base_scalars : Option Shape → Scalars
base_scalars (Some Str) = texts
base_scalars (Some Integer) = integers
base_scalars _ = these []

abbrev pub scalars_of : Table → Option Shape → Scalars
scalars_of table (Some Str) = texts
scalars_of table (Some Integer) = integers
scalars_of table (Some Boolean) = booleans
scalars_of table (Some Null) = these (null ∷ [])
scalars_of table (Some (Literal l)) = these (view l ∷ [])
scalars_of table (Some (Enumeration ts)) = these (map text ts)
scalars_of table (Some (Refinement u cs)) = base_scalars (shape_by table u.0)
scalars_of table _ = these []

-- a scalar of them
abbrev pub is_among : Scalars → Value → Bool
is_among texts (text s) = true
is_among integers (integer z) = true
is_among booleans (boolean b) = true
is_among (these vs) v = list_any (is_same v) vs
is_among _ v = false

-- some scalar is taken by both
abbrev pub do_meet : Scalars → Scalars → Bool
do_meet texts texts = true
do_meet integers integers = true
do_meet booleans booleans = true
do_meet (these vs) other = list_any (is_among other) vs
do_meet other (these vs) = list_any (is_among other) vs
do_meet _ _ = false

-- no scalar is taken by two members
abbrev pub none_meet : List Scalars → Bool
none_meet [] = true
none_meet (s ∷ ss) = not (list_any (do_meet s) ss) && none_meet ss

-- the kinds of members: all but frozen, optional, maybe, union and what is no type
abbrev pub is_member : Option Shape → Bool
is_member (Some Str) = true
is_member (Some Integer) = true
is_member (Some Boolean) = true
is_member (Some Null) = true
is_member (Some (Literal l)) = true
is_member (Some (Enumeration ts)) = true
is_member (Some (Refinement u cs)) = true
is_member (Some (Array u)) = true
is_member (Some (Map u)) = true
is_member (Some (Model m)) = true
is_member _ = false

-- where there are two or more models, they have a tag
abbrev pub have_tag : Table → List (TypeNo × ModelNo) → Bool
have_tag table [] = true
have_tag table (m ∷ []) = true
have_tag table ms = is_some (tag_of table ms)

-- there is no map, or one and no model beside it
abbrev pub is_alone : List TypeNo → List (TypeNo × ModelNo) → Bool
is_alone [] models = true
is_alone (t ∷ []) [] = true
is_alone _ models = false

-- The members of a union are told apart: each is of a kind that is admitted, no scalar is taken by two, at
-- most one is an array, at most one is a map and then none is a model, and two or more models have a tag.
abbrev pub are_apart : Table → List TypeNo → Bool
are_apart table ms =
    list_all (λ t. is_member (shape_by table t.0)) ms
    && none_meet (map (λ t. scalars_of table (shape_by table t.0)) ms)
    && nat_le (length (filter (λ t. is_array (shape_by table t.0)) ms)) 1
    && is_alone (filter (λ t. is_map (shape_by table t.0)) ms) (models_of table ms)
    && have_tag table (models_of table ms)

-- a member of the union at a type that takes the scalar, conditions aside
pub record IsTaker (table : Table) (t : ℕ) (u : TypeNo) (v : Value) : Type 0 where
  pub members : List TypeNo
  pub union : shape_at table t ≡ Some (Union members)
  pub among : Contains members u
  pub scalar : IsTrue (is_scalar v)
  pub takes : IsTrue (takes table (shape_by table u.0) v)
