-- What stands at the places of a labelled snapshot, and where its nodes stand.
use Rattle.std.specs.Prelude.{ℕ, List, [], ◌∷◌, length, map, slice_get, Bool, false, ◌&&◌, nat_eq, Option, Some, None, option_and_then, if◌then◌else◌}
use Rattle.std.specs.Option.{option_map}
use Rattle.snap_core.specs.Value.{Value}
use Rattle.snap_core.specs.declared.ident.Ident.{Ident}
use Rattle.snap_core.specs.declared.number.ModelNo.{ModelNo}
use Rattle.pointer_core.specs.Path.{Path}
use Rattle.patch_core.specs.Place.{index_below}
use Rattle.type_table.specs.Identifiers.{ident_of}
use Rattle.type_core.specs.Doubled.{same_ident}
use Rattle.edit_core.specs.declared.kind.Kind.{Kind}
use Rattle.edit_core.specs.declared.kind.Kind.TheVariants as kind
use Rattle.edit_core.specs.Labelled.{Label, Labelled, Branches, Entries, Entry, leaf, many, keyed, no_branches, branch, no_entries, entry, items_in, entries_in, bare}
use Rattle.edit_core.specs.Edit.{Turn, to_item}
use Rattle.edit_core.specs.Typing.{Typing, label_of, field_at}
use Rattle.edit_core.specs.Template.{entry_at}
use Rattle.edit_core.specs.Plain.{token_of}
use Rattle.tree_core.specs.declared.place.Place.{Place}
use Rattle.tree_core.specs.declared.place.Place.TheVariants.{Whole, Prop, Item, Key}
use Rattle.edit_core.specs.Ways.{way_to, part_at}
use Rattle.tree_core.specs.Nodes.{to_key}

-- the node of a number; none where it is dead
abbrev pub node_of : ℕ → Labelled → Option Labelled
node_of n root = option_and_then (λ way. part_at way root) (way_to n root)

-- its path
abbrev pub path_to : ℕ → Labelled → Option Path
path_to n root = option_map (map token_of) (way_to n root)

abbrev pub depth_to : ℕ → Labelled → Option ℕ
depth_to n root = option_map length (way_to n root)

abbrev pub kind_at : ℕ → Labelled → Option Kind
kind_at n root = option_and_then (λ node. option_map (λ l. l.kind) (label_of node)) (node_of n root)

-- how many items, values or properties a node has
abbrev pub size_of : Labelled → ℕ
size_of (leaf v) = 0
size_of (many l bs) = length (items_in bs)
size_of (keyed l es) = length (entries_in es)

abbrev pub size_at : ℕ → Labelled → Option ℕ
size_at n root = option_map size_of (node_of n root)

-- a key of a map, counted from 0 in ascending order
abbrev pub key_in : ℕ → Kind → List Entry → Option (List ℕ)
key_in i (kind.Map t) es = option_map (λ e. e.0) (slice_get es i)
key_in i kind es = None

abbrev pub key_of_map : ℕ → Labelled → Option (List ℕ)
key_of_map i (keyed l es) = key_in i l.kind (entries_in es)
key_of_map i x = None

abbrev pub key_at : ℕ → ℕ → Labelled → Option (List ℕ)
key_at n i root = option_and_then (key_of_map i) (node_of n root)

-- what stands at a place of a node, if the place is one of it
abbrev pub property_in : List ℕ → Kind → List Entry → Option Labelled
property_in name (kind.Model m) es = entry_at name es
property_in name kind es = None

abbrev pub value_in : List ℕ → Kind → List Entry → Option Labelled
value_in key (kind.Map t) es = entry_at key es
value_in key kind es = None

abbrev pub part_of : Place → Labelled → Option Labelled
part_of (Whole n) x = Some x
part_of (Prop n name) (keyed l es) = property_in name l.kind (entries_in es)
part_of (Item n i) (many l bs) = slice_get (items_in bs) i
part_of (Key n key) (keyed l es) = value_in key l.kind (entries_in es)
part_of place x = None

abbrev pub node_no : Place → ℕ
node_no (Whole n) = n.0
node_no (Prop n name) = n.0
node_no (Item n i) = n.0
node_no (Key n key) = n.0

-- what stands at a place; none where it is no place of the tree
abbrev pub part_at_place : Place → Labelled → Option Labelled
part_at_place place root = option_and_then (part_of place) (node_of (node_no place) root)

-- the node or the value that a path leads to: by items' indexes and by properties' and entries' keys
abbrev pub way_along : Path → Labelled → Option (List Turn)
way_along [] x = Some []
way_along (token ∷ path) (many l bs) =
    option_and_then (λ i. option_and_then (λ part. option_map (λ way. to_item i ∷ way) (way_along path part)) (slice_get (items_in bs) i))
    (index_below (length (items_in bs)) token)
way_along (token ∷ path) (keyed l es) =
    option_and_then (λ part. option_map (λ way. to_key token (entries_in es) ∷ way) (way_along path part)) (entry_at token (entries_in es))
way_along (token ∷ path) (leaf v) = None

-- The node of a model with an identifier.

abbrev pub same_identifier : Ident → Option Ident → Bool
same_identifier i (Some other) = same_ident i other
same_identifier i None = false

abbrev pub identifier_in : Option (List ℕ) → Value → Option Ident
identifier_in (Some name) v = ident_of (field_at name v)
identifier_in None v = None

abbrev pub is_model : ModelNo → Kind → Bool
is_model m (kind.Model other) = nat_eq m.0 other.0
is_model m kind = false

-- a model and an identifier
pub record Sought : Type 0 where
  pub name : Option (List ℕ)
  pub model : ModelNo
  pub identifier : Ident

abbrev pub is_sought : Sought → Label → Value → Bool
is_sought sought l v = is_model sought.model l.kind && same_identifier sought.identifier (identifier_in sought.name v)

abbrev pub or_node : Option ℕ → Option ℕ → Option ℕ
or_node (Some n) other = Some n
or_node None other = other

abbrev mutual
  -- the first in document order
  pub sought_in : Sought → Labelled → Option ℕ
  sought_in sought (leaf v) = None
  sought_in sought (many l bs) = sought_in_items sought bs
  sought_in sought (keyed l es) = if is_sought sought l (bare (keyed l es)) then Some l.number else sought_in_entries sought es

  pub sought_in_items : Sought → Branches Label → Option ℕ
  sought_in_items sought no_branches = None
  sought_in_items sought (branch x bs) = or_node (sought_in sought x) (sought_in_items sought bs)

  pub sought_in_entries : Sought → Entries Label → Option ℕ
  sought_in_entries sought no_entries = None
  sought_in_entries sought (entry k x es) = or_node (sought_in sought x) (sought_in_entries sought es)

-- the node of a model with an identifier, if there is one
abbrev pub resolved : Typing → ModelNo → Ident → Labelled → Option ℕ
resolved typing m identifier root = sought_in (record { name = typing.identifier_of m; model = m; identifier = identifier }) root
