-- Values, as every definition of the project sees them: what JSON spells, with whole numbers alone.
use Rattle.std.specs.Prelude.{◌≡◌, ℕ, ◌+◌, max, ℤ, pos, negsuc, int_le, List, [], ◌∷◌, length, Bool, ◌&&◌, IsTrue, Option, Some, None, if◌then◌else◌}
use Rattle.std.specs.declared.cmp.Ordering.TheVariants.{Less}
use Rattle.std.specs.Ordering.{nat_cmp}
use Rattle.std.specs.Cmp.Lexicographic.{slice_cmp}
use Rattle.std.specs.Str.{bytes_eq}

mutual
  -- A value whose lists and records each carry an A: nothing in a plain value.
  pub data Tree (A : Type 0) : Type 0 where
    null : Tree A
    boolean : Bool → Tree A
    integer : ℤ → Tree A
    text : List ℕ → Tree A
    list : A → TreeItems A → Tree A
    dict : A → TreeFields A → Tree A

  -- the items of a list, in order
  pub data TreeItems (A : Type 0) : Type 0 where
    no_parts : TreeItems A
    part : Tree A → TreeItems A → TreeItems A

  -- the entries of a record, in order
  pub data TreeFields (A : Type 0) : Type 0 where
    no_members : TreeFields A
    member : List ℕ → Tree A → TreeFields A → TreeFields A

-- a plain value, the items of a plain list, and the fields of a plain record
abbrev pub Value : Type 0
Value = Tree (Unit {0})

abbrev pub Items : Type 0
Items = TreeItems (Unit {0})

abbrev pub Fields : Type 0
Fields = TreeFields (Unit {0})

abbrev mutual
  -- 1 for itself, the bytes of a text and of keys, and the weights of its parts
  pub weight_of : {A : Type 0} → Tree A → ℕ
  weight_of null = 1
  weight_of (boolean b) = 1
  weight_of (integer z) = 1
  weight_of (text s) = 1 + length s
  weight_of (list a ps) = 1 + parts_weight ps
  weight_of (dict a ms) = 1 + members_weight ms

  pub parts_weight : {A : Type 0} → TreeItems A → ℕ
  parts_weight no_parts = 0
  parts_weight (part v ps) = weight_of v + parts_weight ps

  pub members_weight : {A : Type 0} → TreeFields A → ℕ
  members_weight no_members = 0
  members_weight (member k v ms) = length k + weight_of v + members_weight ms

abbrev mutual
  -- 1 for a scalar and for what is empty, otherwise 1 more than the deepest part
  pub depth_of : {A : Type 0} → Tree A → ℕ
  depth_of null = 1
  depth_of (boolean b) = 1
  depth_of (integer z) = 1
  depth_of (text s) = 1
  depth_of (list a ps) = 1 + parts_depth ps
  depth_of (dict a ms) = 1 + members_depth ms

  pub parts_depth : {A : Type 0} → TreeItems A → ℕ
  parts_depth no_parts = 0
  parts_depth (part v ps) = max (depth_of v) (parts_depth ps)

  pub members_depth : {A : Type 0} → TreeFields A → ℕ
  members_depth no_members = 0
  members_depth (member k v ms) = max (depth_of v) (members_depth ms)

-- from -9007199254740991 to 9007199254740991, the integers that a double holds one by one
abbrev pub is_whole : ℤ → Bool
is_whole z = int_le (negsuc 9007199254740990) z && int_le z (pos 9007199254740991)

-- a text comes before the first of these, by its bytes
abbrev pub ComesBefore : List ℕ → List (List ℕ) → Type 0
ComesBefore t [] = Unit {0}
ComesBefore t (u ∷ us) = slice_cmp nat_cmp t u ≡ Less

-- texts stand in strictly ascending order
abbrev pub AreAscending : List (List ℕ) → Type 0
AreAscending [] = Unit {0}
AreAscending (t ∷ ts) = ComesBefore t ts × AreAscending ts

-- the keys of a record's entries
abbrev pub keys_of : {A : Type 0} → TreeFields A → List (List ℕ)
keys_of no_members = []
keys_of (member k v ms) = k ∷ keys_of ms

abbrev mutual
  -- integers are in their range, and the keys of each record stand in strictly ascending order
  pub IsPlain : {A : Type 0} → Tree A → Type 0
  IsPlain null = Unit {0}
  IsPlain (boolean b) = Unit {0}
  IsPlain (integer z) = IsTrue (is_whole z)
  IsPlain (text s) = Unit {0}
  IsPlain (list a ps) = ArePlain ps
  IsPlain (dict a ms) = ArePlainMembers ms

  pub ArePlain : {A : Type 0} → TreeItems A → Type 0
  ArePlain no_parts = Unit {0}
  ArePlain (part v ps) = IsPlain v × ArePlain ps

  pub ArePlainMembers : {A : Type 0} → TreeFields A → Type 0
  ArePlainMembers no_members = Unit {0}
  ArePlainMembers (member k v ms) = IsPlain v × ComesBefore k (keys_of ms) × ArePlainMembers ms

-- the keys of one record stand in strictly ascending order, whatever stands under them
abbrev pub AreKeyed : {A : Type 0} → TreeFields A → Type 0
AreKeyed ms = AreAscending (keys_of ms)

abbrev mutual
  -- the keys of each record stand in strictly ascending order
  pub IsOrdered : {A : Type 0} → Tree A → Type 0
  IsOrdered (list a ps) = AreOrdered ps
  IsOrdered (dict a ms) = AreOrderedMembers ms
  IsOrdered _ = Unit {0}

  pub AreOrdered : {A : Type 0} → TreeItems A → Type 0
  AreOrdered no_parts = Unit {0}
  AreOrdered (part v ps) = IsOrdered v × AreOrdered ps

  pub AreOrderedMembers : {A : Type 0} → TreeFields A → Type 0
  AreOrderedMembers no_members = Unit {0}
  AreOrderedMembers (member k v ms) = IsOrdered v × ComesBefore k (keys_of ms) × AreOrderedMembers ms

-- the value of the record's first entry under a key
abbrev pub value_at : {A : Type 0} → List ℕ → TreeFields A → Option (Tree A)
value_at key no_members = None
value_at key (member k v ms) = if bytes_eq key k then Some v else value_at key ms
