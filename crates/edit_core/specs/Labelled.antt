-- Labelled snapshots: values whose models, arrays and maps carry labels.
use Rattle.std.specs.Prelude.{ℕ, List, [], ◌∷◌}
use Rattle.snap_core.specs.Value.{Value, list, dict, no_parts, part, no_members, member, Items, Fields}
use Rattle.edit_core.specs.declared.kind.Kind.{Kind}

-- what tells a node from all others of a tree, and what it is
pub record Label : Type 0 where
  pub number : ℕ
  pub kind : Kind

mutual
  -- A value whose nodes each carry an A. A leaf is a scalar, a frozen value or a reference's value.
  pub data Annotated (A : Type 0) : Type 0 where
    leaf : Value → Annotated A
    many : A → Branches A → Annotated A
    keyed : A → Entries A → Annotated A

  -- the items of an array, in order
  pub data Branches (A : Type 0) : Type 0 where
    no_branches : Branches A
    branch : Annotated A → Branches A → Branches A

  -- the properties of a model, or the entries of a map, in order
  pub data Entries (A : Type 0) : Type 0 where
    no_entries : Entries A
    entry : List ℕ → Annotated A → Entries A → Entries A

-- a labelled snapshot
abbrev pub Labelled : Type 0
Labelled = Annotated Label

-- a part of a model or of a map: its key and its value
abbrev pub Entry : Type 0
Entry = List ℕ × Labelled

abbrev pub branches : {A : Type 0} → List (Annotated A) → Branches A
branches [] = no_branches
branches (x ∷ xs) = branch x (branches xs)

abbrev pub items_in : {A : Type 0} → Branches A → List (Annotated A)
items_in no_branches = []
items_in (branch x xs) = x ∷ items_in xs

abbrev pub entries : {A : Type 0} → List (List ℕ × Annotated A) → Entries A
entries [] = no_entries
entries (e ∷ es) = entry e.0 e.1 (entries es)

abbrev pub entries_in : {A : Type 0} → Entries A → List (List ℕ × Annotated A)
entries_in no_entries = []
entries_in (entry k x es) = (k, x) ∷ entries_in es

abbrev mutual
  -- the value alone, without labels
  pub bare : {A : Type 0} → Annotated A → Value
  bare (leaf v) = v
  bare (many a bs) = list tt (bare_items bs)
  bare (keyed a es) = dict tt (bare_fields es)

  pub bare_items : {A : Type 0} → Branches A → Items
  bare_items no_branches = no_parts
  bare_items (branch x bs) = part (bare x) (bare_items bs)

  pub bare_fields : {A : Type 0} → Entries A → Fields
  bare_fields no_entries = no_members
  bare_fields (entry k x es) = member k (bare x) (bare_fields es)
