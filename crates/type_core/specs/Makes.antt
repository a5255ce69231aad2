-- Making as a table: which types make which inputs into which values, one case a row.
use Rattle.std.specs.Prelude.{◌≡◌, ◌≢◌, ℕ, ℤ, List, [], ◌∷◌, Bool, IsTrue, Option, Some, None, All, Contains}
use Rattle.snap_core.specs.Value.{Value, null, boolean, integer, text, list, dict, no_parts, part, no_members, member, value_at, Items, Fields}
use Rattle.snap_core.specs.View.{view}
use Rattle.snap_core.specs.declared.snap.Snap.{Snap}
use Rattle.snap_core.specs.declared.number.ModelNo.{ModelNo}
use Rattle.snap_core.specs.declared.number.TypeNo.{TypeNo}
use Rattle.type_table.specs.declared.shape.Shape.{Shape}
use Rattle.type_table.specs.declared.shape.Shape.TheVariants.{Str, Integer, Boolean, Null, Literal, Enumeration, Identifier, IdentifierNumber, Frozen, Optional, Maybe, MaybeNull, Union, Refinement, Array, Map, Model, Reference, Safe, Named}
use Rattle.type_table.specs.declared.shape.Condition.{Condition}
use Rattle.type_table.specs.declared.shape.Property.{Property}
use Rattle.type_table.specs.Table.{Table, shape_at, properties_of}
use Rattle.type_table.specs.Names.{shape_by}
use Rattle.type_table.specs.Identifiers.{is_key, of_property, ident_in, is_keyed}
use Rattle.type_core.specs.Judging.{judged_by}
use Rattle.type_table.specs.Unions.{is_same, is_based, chosen}
use Rattle.type_core.specs.Making.{admits, fits, is_within}

-- what a default may be once it is made: a weight of 65,536 and a depth of 64
abbrev pub is_light : Value → Bool
is_light v = fits 65536 v

-- maybe and maybeNull of a type
pub data IsMaybe : Shape → TypeNo → Type 0 where
  maybe : (u : TypeNo) → IsMaybe (Maybe u) u
  maybe_null : (u : TypeNo) → IsMaybe (MaybeNull u) u

mutual
  -- Type t of the table makes the value s of the input: a given value, or none.
  pub data Makes (table : Table) : ℕ → Option Value → Value → Type 0 where
    string : (t : ℕ) (s : List ℕ) → shape_at table t ≡ Some Str → Makes table t (Some (text s)) (text s)
    whole : (t : ℕ) (z : ℤ) → shape_at table t ≡ Some Integer → Makes table t (Some (integer z)) (integer z)
    truth : (t : ℕ) (b : Bool) → shape_at table t ≡ Some Boolean
        → Makes table t (Some (boolean b)) (boolean b)
    nothing : (t : ℕ) → shape_at table t ≡ Some Null → Makes table t (Some null) null
    -- a literal and an enumeration make what is equal to it, or to one of them
    literal : (t : ℕ) (l : Snap) (v : Value) → shape_at table t ≡ Some (Literal l)
        → IsTrue (is_same (view l) v) → Makes table t (Some v) v
    enumeration : (t : ℕ) (ts : List (List ℕ)) (s : List ℕ) → shape_at table t ≡ Some (Enumeration ts)
        → Contains ts s → Makes table t (Some (text s)) (text s)
    -- an identifier is made of a text, or of an integer
    identifier : (t : ℕ) (s : List ℕ) → shape_at table t ≡ Some Identifier → Makes table t (Some (text s)) (text s)
    identifier_number : (t : ℕ) (z : ℤ) → shape_at table t ≡ Some IdentifierNumber
        → Makes table t (Some (integer z)) (integer z)
    -- a reference makes a value of the kind of the identifiers that it leads to
    reference : (t : ℕ) (u : TypeNo) (v : Value) → shape_at table t ≡ Some (Reference u) → IsTrue (is_key table u v)
        → Makes table t (Some v) v
    -- so does a safe reference; where it is a property's type, it makes null too, and null where no value is given
    safe : (t : ℕ) (u : TypeNo) (v : Value) → shape_at table t ≡ Some (Safe u) → IsTrue (is_key table u v)
        → Makes table t (Some v) v
    safe_of_null : (t : ℕ) (u : TypeNo) → shape_at table t ≡ Some (Safe u) → IsTrue (of_property table t)
        → Makes table t (Some null) null
    safe_absent : (t : ℕ) (u : TypeNo) → shape_at table t ≡ Some (Safe u) → IsTrue (of_property table t)
        → Makes table t None null
    -- a frozen type makes anything as it is, and null where no value is given
    frozen : (t : ℕ) (v : Value) → shape_at table t ≡ Some Frozen → Makes table t (Some v) v
    frozen_absent : (t : ℕ) → shape_at table t ≡ Some Frozen → Makes table t None null
    -- an optional type makes what its type makes; where no value is given, what its type makes of the
    -- default, which is light enough
    optional : (t : ℕ) (u : TypeNo) (d : Snap) (v s : Value) → shape_at table t ≡ Some (Optional u d)
        → Makes table u.0 (Some v) s → Makes table t (Some v) s
    optional_absent : (t : ℕ) (u : TypeNo) (d : Snap) (s : Value) → shape_at table t ≡ Some (Optional u d)
        → Makes table u.0 (Some (view d)) s → IsTrue (is_light s) → Makes table t None s
    -- a maybe makes null of null and where no value is given, and otherwise what its type makes
    maybe_of_null : (t : ℕ) (shape : Shape) (u : TypeNo) → shape_at table t ≡ Some shape → IsMaybe shape u
        → Makes table t (Some null) null
    maybe_absent : (t : ℕ) (shape : Shape) (u : TypeNo) → shape_at table t ≡ Some shape → IsMaybe shape u
        → Makes table t None null
    maybe_other : (t : ℕ) (shape : Shape) (u : TypeNo) (v s : Value) → shape_at table t ≡ Some shape
        → IsMaybe shape u → v ≢ null → Makes table u.0 (Some v) s → Makes table t (Some v) s
    -- a union makes what the member makes that the value chooses
    union : (t : ℕ) (ms : List TypeNo) (m : TypeNo) (v s : Value) → shape_at table t ≡ Some (Union ms)
        → chosen table ms v ≡ Some m → Makes table m.0 (Some v) s → Makes table t (Some v) s
    -- a refinement makes the text or the integer of its base that each condition admits
    refinement : (t : ℕ) (u : TypeNo) (cs : List Condition) (v : Value)
        → shape_at table t ≡ Some (Refinement u cs) → IsTrue (is_based (shape_by table u.0) v)
        → All (λ c. IsTrue (admits v c)) cs → Makes table t (Some v) v
    -- an array and a map make each part by their type, and are empty where no value is given
    array : (t : ℕ) (u : TypeNo) (given made : Items) → shape_at table t ≡ Some (Array u)
        → MakesItems table u.0 given made → Makes table t (Some (list tt given)) (list tt made)
    array_absent : (t : ℕ) (u : TypeNo) → shape_at table t ≡ Some (Array u)
        → Makes table t None (list tt no_parts)
    map : (t : ℕ) (u : TypeNo) (given made : Fields) → shape_at table t ≡ Some (Map u)
        → MakesValues table u.0 given made → Makes table t (Some (dict tt given)) (dict tt made)
    map_absent : (t : ℕ) (u : TypeNo) → shape_at table t ≡ Some (Map u)
        → Makes table t None (dict tt no_members)
    -- a model makes a record of its properties
    model : (t : ℕ) (m : ModelNo) (given made : Fields) → shape_at table t ≡ Some (Model m)
        → MakesEach table given (properties_of table m.0) made
        → Makes table t (Some (dict tt given)) (dict tt made)
    -- a name makes what the type makes that it stands for
    name : (t : ℕ) (u : TypeNo) (x : Option Value) (s : Value) → shape_at table t ≡ Some (Named u)
        → Makes table u.0 x s → Makes table t x s

  -- each item is made by the type
  pub data MakesItems (table : Table) : ℕ → Items → Items → Type 0 where
    no_items : (t : ℕ) → MakesItems table t no_parts no_parts
    one_item : (t : ℕ) (v s : Value) (given made : Items) → Makes table t (Some v) s
        → MakesItems table t given made → MakesItems table t (part v given) (part s made)

  -- Each value of a record is made by the type, under its key; where a model with an identifier makes it, the
  -- key is the identifier's text.
  pub data MakesValues (table : Table) : ℕ → Fields → Fields → Type 0 where
    no_values : (t : ℕ) → MakesValues table t no_members no_members
    one_value : (t : ℕ) (k : List ℕ) (v s : Value) (given made : Fields)
        → Makes table t (Some v) s → IsTrue (is_keyed k (ident_in table (judged_by table v t) v))
        → MakesValues table t given made → MakesValues table t (member k v given) (member k s made)

  -- Each property is made of the record's field of its name; where there is no such field, no value is given.
  pub data MakesEach (table : Table) : Fields → List Property → Fields → Type 0 where
    no_more : (given : Fields) → MakesEach table given [] no_members
    one_more : (given : Fields) (p : Property) (ps : List Property) (v : Value)
        (made : Fields)
        → Makes table p.of.0 (value_at p.name given) v → MakesEach table given ps made
        → MakesEach table given (p ∷ ps) (member p.name v made)

-- the same within the limits
abbrev pub MakesWithin : Table → ℕ → Option Value → Value → Type 0
MakesWithin table t given made = Makes table t given made × IsTrue (is_within made)
