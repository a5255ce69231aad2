-- The labels of a written value: what stays keeps its number, and what is new draws one in document order.
use Rattle.std.specs.Prelude.{ℕ, ◌+◌, List, [], ◌∷◌, Option, Some, None, if◌then◌else◌}
use Rattle.std.specs.Str.{bytes_eq}
use Rattle.snap_core.specs.Value.{Value, list, dict, no_parts, part, no_members, member, Items, Fields}
use Rattle.edit_core.specs.declared.kind.Kind.{Kind}
use Rattle.edit_core.specs.declared.kind.Kind.TheVariants.{Array}
use Rattle.edit_core.specs.Labelled.{Label, Annotated, Branches, Entries, Labelled, Entry, leaf, many, keyed, no_branches, branch, no_entries, entry, items_in, entries_in, bare}
use Rattle.edit_core.specs.Comparing.{is_equal}
use Rattle.edit_core.specs.Typing.{Typing, Rules, label_of, seen, stays_as}

-- a label whose number is kept, or still to be drawn
pub record NewLabel : Type 0 where
  pub number : Option ℕ
  pub kind : Kind

-- a labelled snapshot with numbers that are still to be drawn
abbrev pub Template : Type 0
Template = Annotated NewLabel

abbrev pub kept_label : Label → NewLabel
kept_label l = record { number = Some l.number; kind = l.kind }

abbrev mutual
  -- all stays, with its numbers
  pub kept : Labelled → Template
  kept (leaf v) = leaf v
  kept (many l bs) = many (kept_label l) (kept_branches bs)
  kept (keyed l es) = keyed (kept_label l) (kept_entries es)

  pub kept_branches : Branches Label → Branches NewLabel
  kept_branches no_branches = no_branches
  kept_branches (branch x bs) = branch (kept x) (kept_branches bs)

  pub kept_entries : Entries Label → Entries NewLabel
  kept_entries no_entries = no_entries
  kept_entries (entry k x es) = entry k (kept x) (kept_entries es)

-- the node that stays, if any, where a value of a kind is set
abbrev pub standing : Typing → Kind → Option Labelled → Value → Option Labelled
standing typing kind (Some old) new = if stays_as typing kind (seen old) new then Some old else None
standing typing kind None new = None

-- the label of the node that stays, or a new one
abbrev pub label_for : Kind → Option Labelled → NewLabel
label_for kind (Some old) = numbered_as (label_of old) where
  numbered_as : Option Label → NewLabel
  numbered_as (Some l) = record { number = Some l.number; kind = kind }
  numbered_as None = record { number = None; kind = kind }
label_for kind None = record { number = None; kind = kind }

-- the parts of the node that stays
abbrev pub items_under : Option Labelled → List Labelled
items_under (Some (many l bs)) = items_in bs
items_under _ = []

abbrev pub entries_under : Option Labelled → List Entry
entries_under (Some (keyed l es)) = entries_in es
entries_under _ = []

abbrev pub entry_at : List ℕ → List Entry → Option Labelled
entry_at key [] = None
entry_at key (e ∷ es) = if bytes_eq key e.0 then Some e.1 else entry_at key es

abbrev pub first_in : List (Option Labelled) → Option Labelled
first_in [] = None
first_in (slot ∷ slots) = slot

abbrev pub rest_of : List (Option Labelled) → List (Option Labelled)
rest_of [] = []
rest_of (slot ∷ slots) = slots

abbrev pub values_in : Items → List Value
values_in no_parts = []
values_in (part v ps) = v ∷ values_in ps

-- an equal value stays as it is
abbrev pub unless_equal : Option Labelled → Value → Template → Template
unless_equal (Some old) v other = if is_equal (bare old) v then kept old else other
unless_equal None v other = other

-- an array, with the old one that stays, if any; `making` makes its items, given what they are matched with
abbrev pub array_template : Rules → Option Kind → Option Labelled → Items → (ℕ → List (Option Labelled) → Branches NewLabel) → Template
array_template rules (Some (Array t)) old ps making =
    let stays : Option Labelled = standing rules.typing (Array t) old (list tt ps) in
    many (label_for (Array t) stays) (making t.0 (rules.matching t.0 (items_under stays) (values_in ps)))
array_template rules _ old ps making = leaf (list tt ps)

-- a record of a model or a map, likewise
abbrev pub record_template : Rules → Option Kind → Option Labelled → Fields → (Kind → List Entry → Entries NewLabel) → Template
record_template rules None old ms making = leaf (dict tt ms)
record_template rules (Some (Array t)) old ms making = leaf (dict tt ms)
record_template rules (Some kind) old ms making =
    let stays : Option Labelled = standing rules.typing kind old (dict tt ms) in
    keyed (label_for kind stays) (making kind (entries_under stays))

abbrev mutual
  -- What a type makes of a value in the place of an old one, if there is one.
  pub template : Rules → ℕ → Option Labelled → Value → Template
  template rules t old (list a ps) =
      unless_equal old (list a ps) (array_template rules (rules.typing.kind_of t (list a ps)) old ps (item_templates rules ps))
  template rules t old (dict a ms) =
      unless_equal old (dict a ms) (record_template rules (rules.typing.kind_of t (dict a ms)) old ms (field_templates rules ms))
  template rules t old v = leaf v

  -- items of a type, each with the old one that it is matched with
  pub item_templates : Rules → Items → ℕ → List (Option Labelled) → Branches NewLabel
  item_templates rules no_parts t olds = no_branches
  item_templates rules (part v ps) t olds =
      branch (template rules t (first_in olds) v) (item_templates rules ps t (rest_of olds))

  -- the parts of a node of a kind, each with the old one under its key
  pub field_templates : Rules → Fields → Kind → List Entry → Entries NewLabel
  field_templates rules no_members kind olds = no_entries
  field_templates rules (member k v ms) kind olds =
      entry k (template rules (rules.typing.type_under kind k) (entry_at k olds) v) (field_templates rules ms kind olds)

-- a number from the next one on, where none is kept
abbrev pub drawn : ℕ → NewLabel → Label
drawn next l = numbered_by l.number where
  numbered_by : Option ℕ → Label
  numbered_by (Some n) = record { number = n; kind = l.kind }
  numbered_by None = record { number = next; kind = l.kind }

-- how many numbers are drawn
abbrev pub draws : NewLabel → ℕ
draws l = drawn_by l.number where
  drawn_by : Option ℕ → ℕ
  drawn_by (Some n) = 0
  drawn_by None = 1

abbrev mutual
  pub new_count : Template → ℕ
  new_count (leaf v) = 0
  new_count (many l bs) = draws l + new_count_items bs
  new_count (keyed l es) = draws l + new_count_entries es

  pub new_count_items : Branches NewLabel → ℕ
  new_count_items no_branches = 0
  new_count_items (branch x bs) = new_count x + new_count_items bs

  pub new_count_entries : Entries NewLabel → ℕ
  new_count_entries no_entries = 0
  new_count_entries (entry k x es) = new_count x + new_count_entries es

abbrev mutual
  -- the new numbers are drawn in document order
  pub numbered : ℕ → Template → Labelled
  numbered next (leaf v) = leaf v
  numbered next (many l bs) = many (drawn next l) (numbered_items (next + draws l) bs)
  numbered next (keyed l es) = keyed (drawn next l) (numbered_entries (next + draws l) es)

  pub numbered_items : ℕ → Branches NewLabel → Branches Label
  numbered_items next no_branches = no_branches
  numbered_items next (branch x bs) = branch (numbered next x) (numbered_items (next + new_count x) bs)

  pub numbered_entries : ℕ → Entries NewLabel → Entries Label
  numbered_entries next no_entries = no_entries
  numbered_entries next (entry k x es) = entry k (numbered next x) (numbered_entries (next + new_count x) es)
