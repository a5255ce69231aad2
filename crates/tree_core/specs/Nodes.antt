-- The nodes of a tree: their parts, and what is on the way to them.
use Rattle.std.specs.Prelude.{ℕ, zero, suc, List, [], ◌∷◌, Bool, false, ◌||◌, ◌==◌, Option, Some, None, unwrap_or, if◌then◌else◌}
use Rattle.std.specs.Option.{option_map}
use Rattle.std.specs.Ordering.{nat_cmp, is_lt}
use Rattle.std.specs.Cmp.Lexicographic.{slice_cmp}
use Rattle.std.specs.List.{list_any}
use Rattle.snap_core.specs.declared.number.NodeNo.{NodeNo}
use Rattle.edit_core.specs.declared.kind.Kind.{Kind}
use Rattle.edit_core.specs.Labelled.{Label, Labelled, Entry, many, keyed, items_in, entries_in}
use Rattle.edit_core.specs.Edit.{Turn, to_item, to_entry}
use Rattle.edit_core.specs.Typing.{Typing, label_of, kind_in}
use Rattle.edit_core.specs.Ways.{part_at_turn}

-- where an entry with a key stands, or would go: behind those with lower keys
abbrev pub place_in : List ℕ → List Entry → ℕ
place_in key [] = zero
place_in key (e ∷ es) = if is_lt (slice_cmp nat_cmp e.0 key) then suc (place_in key es) else zero

abbrev pub to_key : List ℕ → List Entry → Turn
to_key key es = to_entry (place_in key es) key

-- one of the running nodes has a label
abbrev pub is_running : List NodeNo → Option Label → Bool
is_running running (Some l) = list_any (λ (n : NodeNo). n.0 == l.number) running
is_running running None = false

-- A node may be written: one of the running nodes is the node or above it.
abbrev pub may_write : List NodeNo → List Turn → Labelled → Bool
may_write running [] x = is_running running (label_of x)
may_write running (turn ∷ way) x =
    is_running running (label_of x) || unwrap_or (option_map (λ part. may_write running way part) (part_at_turn turn x)) false

-- the key of a turn; an item has none
abbrev pub key_of : Turn → List ℕ
key_of (to_item i) = []
key_of (to_entry i key) = key

-- the items of an array, and the entries of a model or a map
abbrev pub items_of : Labelled → List Labelled
items_of (many l bs) = items_in bs
items_of x = []

abbrev pub entries_of : Labelled → List Entry
entries_of (keyed l es) = entries_in es
entries_of x = []

-- the type of a node's part under a key; an item has none
abbrev pub type_by : Typing → Option Kind → List ℕ → ℕ
type_by typing (Some kind) key = typing.type_under kind key
type_by typing None key = 0

abbrev pub part_type : Typing → Labelled → List ℕ → ℕ
part_type typing node key = type_by typing (kind_in (label_of node)) key

-- the type of the place at the end of a way, from a value of a type on
abbrev pub type_at : Typing → ℕ → List Turn → Labelled → ℕ
type_at typing t [] x = t
type_at typing t (turn ∷ way) x =
    unwrap_or (option_map (λ part. type_at typing (part_type typing x (key_of turn)) way part) (part_at_turn turn x)) t
