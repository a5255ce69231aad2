-- Making: what a type makes of a value or of none, or the first refusal in document order.
use Rattle.std.specs.Prelude.{ℕ, ◌+◌, ◌==◌, pos, int_le, List, [], ◌∷◌, Bool, false, ◌&&◌, nat_le, Option, Some, None, Result, Ok, Err, decimal, if◌then◌else◌}
use Rattle.std.specs.List.{list_all, starts_with}
use Rattle.std.specs.Str.{bytes_eq}
use Rattle.std.specs.Fmt.{char_count}
use Rattle.snap_core.specs.Value.{Value, null, boolean, integer, text, list, dict, no_parts, part, no_members, member, weight_of, depth_of, Items, Fields}
use Rattle.snap_core.specs.declared.snap.Snap.{Snap}
use Rattle.pointer_core.specs.Path.{Path}
use Rattle.pointer_core.specs.declared.refusal.Rule.{Rule}
use Rattle.pointer_core.specs.declared.refusal.Rule.TheVariants.{Mistyped, Refine, Key, Large}
use Rattle.type_table.specs.declared.shape.Shape.{Shape}
use Rattle.type_table.specs.declared.shape.Shape.TheVariants.{Frozen, Optional, Maybe, MaybeNull, Refinement, Array, Map, Model, Safe}
use Rattle.type_table.specs.declared.shape.Condition.{Condition}
use Rattle.type_table.specs.declared.shape.Condition.TheVariants.{Min, Max, MinLength, MaxLength, StartsWith}
use Rattle.type_table.specs.declared.shape.Property.{Property}
use Rattle.type_table.specs.Table.{Table, Catalog, shape_at, properties_of, default_at}
use Rattle.type_table.specs.Names.{named_by}
use Rattle.snap_core.specs.declared.ident.Ident.{Ident}
use Rattle.type_table.specs.Identifiers.{is_firm, ident_in, is_keyed}
use Rattle.type_table.specs.Unions.{takes}
use Rattle.type_core.specs.Judging.{judged_by}

-- the rule that isn't met, and where
pub record Refused : Type 0 where
  pub path : Path
  pub rule : Rule

-- what is made, or the first refusal
abbrev pub Outcome : Type 0 → Type 0
Outcome A = Result A Refused

-- a rule that isn't met at the place itself
abbrev pub refused : {A : Type 0} → Rule → Outcome A
refused rule = Err (record { path = []; rule = rule })

-- a value that its type doesn't take
abbrev pub mistyped : {A : Type 0} → Outcome A
mistyped = refused Mistyped

-- the same outcome, one step further down
abbrev pub under : {A : Type 0} → List ℕ → Outcome A → Outcome A
under token (Ok made) = Ok made
under token (Err e) = Err (record { path = token ∷ e.path; rule = e.rule })

-- whether a condition admits a value: bounds are for integers, lengths and a beginning for texts
abbrev pub admits : Value → Condition → Bool
admits (integer z) (Min least) = int_le least z
admits (integer z) (Max most) = int_le z most
admits (text s) (MinLength least) = int_le least (pos (char_count s))
admits (text s) (MaxLength most) = int_le (pos (char_count s)) most
admits (text s) (StartsWith beginning) = starts_with ◌==◌ s beginning
admits _ _ = false

-- the conditions of a refinement
abbrev pub conditions_of : Option Shape → List Condition
conditions_of (Some (Refinement u cs)) = cs
conditions_of _ = []

-- the value, where the conditions admit it
abbrev pub refined : List Condition → Value → Outcome Value
refined cs v = if list_all (admits v) cs then Ok v else refused Refine

-- a scalar is made as it is, where the shape takes it and its conditions admit it
abbrev pub scalar_made : Table → Value → Option Shape → Outcome Value
scalar_made table v shape = if takes table shape v then refined (conditions_of shape) v else mistyped

-- what making a value comes to at each type, by number
abbrev pub Maker : Type 0
Maker = ℕ → Outcome Value

-- the default, where it is known
abbrev pub default_made : Option Value → Outcome Value
default_made (Some v) = Ok v
default_made None = mistyped

-- what a type that stands at this number itself makes where no value is given
abbrev pub absent_made : Table → List (Option Snap) → ℕ → Option Shape → Outcome Value
absent_made table defaults t (Some (Optional u d)) = default_made (default_at defaults t)
absent_made table defaults t (Some (Maybe u)) = Ok null
absent_made table defaults t (Some (MaybeNull u)) = Ok null
absent_made table defaults t (Some Frozen) = Ok null
absent_made table defaults t (Some (Array u)) = Ok (list tt no_parts)
absent_made table defaults t (Some (Map u)) = Ok (dict tt no_members)
absent_made table defaults t (Some (Safe u)) = if is_firm table t then mistyped else Ok null
absent_made table defaults t _ = mistyped

-- what a type makes where no value is given, names followed
abbrev pub absent : Table → List (Option Snap) → Maker
absent table defaults t = absent_made table defaults (named_by table t) (shape_at table (named_by table t))

-- one item in front of those that follow, unless one of them is refused
abbrev pub part_made : Outcome Value → Outcome Items → Outcome Items
part_made (Err e) rest = Err e
part_made (Ok v) (Err e) = Err e
part_made (Ok v) (Ok made) = Ok (part v made)

-- the items from this index on, each by the type
abbrev pub items_made : ℕ → ℕ → List Maker → Outcome Items
items_made i t [] = Ok no_parts
items_made i t (m ∷ ms) = part_made (under (decimal i) (m t)) (items_made (i + 1) t ms)

-- a field of a record: its key, what making its value comes to at each type, and the identifier that its
-- value has at each type
pub record FieldMaker : Type 0 where
  pub key : List ℕ
  pub maker : Maker
  pub identifier : ℕ → Option Ident

abbrev pub FieldMakers : Type 0
FieldMakers = List FieldMaker

-- the entry in front of those that follow, unless one of them is refused
abbrev pub entry_made : List ℕ → Outcome Value → Outcome Fields → Outcome Fields
entry_made name (Err e) rest = Err e
entry_made name (Ok v) (Err e) = Err e
entry_made name (Ok v) (Ok made) = Ok (member name v made)

-- a made value under its key, unless it has an identifier that is spelled otherwise
abbrev pub keyed : List ℕ → Option Ident → Outcome Value → Outcome Value
keyed key identifier (Err e) = Err e
keyed key identifier (Ok v) = if is_keyed key identifier then Ok v else refused Key

-- the values of a map, each by the type
abbrev pub entries_made : ℕ → FieldMakers → Outcome Fields
entries_made t [] = Ok no_members
entries_made t (f ∷ fs) =
    entry_made f.key (under f.key (keyed f.key (f.identifier t) (f.maker t))) (entries_made t fs)

-- what stands under a key
abbrev pub field_at : List ℕ → FieldMakers → Option Maker
field_at key [] = None
field_at key (f ∷ fs) = if bytes_eq key f.key then Some f.maker else field_at key fs

-- what the property's type makes of the property's field, or where there is no such field
abbrev pub property_made : Maker → Property → Option Maker → Outcome Value
property_made absent p (Some maker) = maker p.of.0
property_made absent p None = absent p.of.0

-- each property in turn, from the record's fields. FieldMakers that are no property are dropped
abbrev pub properties_made : Maker → List Property → FieldMakers → Outcome Fields
properties_made absent [] fields = Ok no_members
properties_made absent (p ∷ ps) fields =
    entry_made p.name (under p.name (property_made absent p (field_at p.name fields))) (properties_made absent ps fields)

-- the list with those items, the record with those entries
abbrev pub list_of : Outcome Items → Outcome Value
list_of (Ok made) = Ok (list tt made)
list_of (Err e) = Err e

abbrev pub record_of : Outcome Fields → Outcome Value
record_of (Ok made) = Ok (dict tt made)
record_of (Err e) = Err e

-- a list is made by an array's type, item by item, or kept as it is by a frozen type
abbrev pub list_made : Value → List Maker → Option Shape → Outcome Value
list_made v items (Some (Array u)) = list_of (items_made 0 u.0 items)
list_made v items (Some Frozen) = Ok v
list_made v items _ = mistyped

-- a record is made by a map's type, value by value, by a model, property by property, or kept as it is by a
-- frozen type
abbrev pub dict_made : Table → Maker → Value → FieldMakers → Option Shape → Outcome Value
dict_made table absent v fields (Some (Map u)) = record_of (entries_made u.0 fields)
dict_made table absent v fields (Some (Model m)) =
    record_of (properties_made absent (properties_of table m.0) fields)
dict_made table absent v fields (Some Frozen) = Ok v
dict_made table absent v fields _ = mistyped

abbrev mutual
  -- what each type makes of a value
  pub maker_of : Table → List (Option Snap) → Value → Maker
  maker_of table defaults null t = scalar_made table null (judged_by table null t)
  maker_of table defaults (boolean b) t = scalar_made table (boolean b) (judged_by table (boolean b) t)
  maker_of table defaults (integer z) t = scalar_made table (integer z) (judged_by table (integer z) t)
  maker_of table defaults (text s) t = scalar_made table (text s) (judged_by table (text s) t)
  maker_of table defaults (list a ps) t =
      list_made (list a ps) (makers_of table defaults ps) (judged_by table (list a ps) t)
  maker_of table defaults (dict a ms) t =
      dict_made table (absent table defaults) (dict a ms) (fields_of table defaults ms) (judged_by table (dict a ms) t)

  -- the items of a list
  pub makers_of : Table → List (Option Snap) → Items → List Maker
  makers_of table defaults no_parts = []
  makers_of table defaults (part v ps) = maker_of table defaults v ∷ makers_of table defaults ps

  -- the fields of a record
  pub fields_of : Table → List (Option Snap) → Fields → FieldMakers
  fields_of table defaults no_members = []
  fields_of table defaults (member k v ms) =
      record {
        key = k;
        maker = maker_of table defaults v;
        identifier = λ t. ident_in table (judged_by table v t) v;
      }
      ∷ fields_of table defaults ms

-- a type's outcome for a value or none, its limits aside
abbrev pub made_by : Table → List (Option Snap) → ℕ → Option Value → Outcome Value
made_by table defaults t None = absent table defaults t
made_by table defaults t (Some v) = maker_of table defaults v t

-- no heavier than this, and no deeper than 64
abbrev pub fits : ℕ → Value → Bool
fits weight v = nat_le (weight_of v) weight && nat_le (depth_of v) 64

-- within the limits of what is made: a weight of 1,048,576 and a depth of 64
abbrev pub is_within : Value → Bool
is_within v = fits 1048576 v

-- what is beyond the limits is refused as a whole, after everything else
abbrev pub limited : Outcome Value → Outcome Value
limited (Err e) = Err e
limited (Ok v) = if is_within v then Ok v else refused Large

-- what making comes to
abbrev pub making : Catalog → ℕ → Option Value → Outcome Value
making types t given = limited (made_by types.table types.defaults t given)

-- what a map's type, by the type of its values, makes of a value under a key
abbrev pub entry_making : Catalog → ℕ → List ℕ → Value → Outcome Value
entry_making types t key v =
    limited (keyed key (ident_in types.table (judged_by types.table v t) v) (maker_of types.table types.defaults v t))
