-- What is seen of a tree, by the calls that read it.
use Rattle.std.specs.Prelude.{ℕ, List, [], map, decimal, true, false, Option, Some, None, is_some, option_and_then, unwrap_or, if◌then◌else◌}
use Rattle.std.specs.Option.{option_map}
use Rattle.std.specs.List.{range_with_len}
use Rattle.snap_core.specs.Value.{Value, null}
use Rattle.snap_core.specs.declared.ident.Ident.{Ident}
use Rattle.snap_core.specs.declared.number.ModelNo.{ModelNo}
use Rattle.snap_core.specs.declared.number.NodeNo.{NodeNo}
use Rattle.pointer_core.specs.Path.{Path}
use Rattle.type_table.specs.Table.{Table}
use Rattle.type_table.specs.Identifiers.{ident_of}
use Rattle.edit_core.specs.declared.kind.Kind.{Kind}
use Rattle.edit_core.specs.declared.kind.Kind.TheVariants.{Model, Array, Map}
use Rattle.edit_core.specs.Labelled.{Labelled, bare}
use Rattle.edit_core.specs.Typing.{label_of}
use Rattle.tree_core.specs.declared.place.Place.{Place}
use Rattle.tree_core.specs.declared.place.Place.TheVariants.{Prop, Item, Key}
use Rattle.tree_core.specs.TypesTyping.{typing_of}
use Rattle.tree_core.specs.Listing.{node}
use Rattle.tree_core.specs.Reading.{node_of, path_to, kind_at, size_at, key_at, part_at_place, resolved}
use Rattle.tree_reading.specs.declared.held.Held.{Held}
use Rattle.tree_reading.specs.declared.held.Held.TheVariants as what
use Rattle.tree_reading.specs.Held.{held_at}
use Rattle.eval_core.specs.Sight.{Sight, Being, Entry, holds, stands, refers}
use Rattle.eval_core.specs.Sight as sight

-- a tree and the types that it is of
pub record Whole : Type 0 where
  pub table : Table
  pub tree : Labelled

-- the value at a place; null where it is no place
abbrev pub value_at_place : Whole → Place → Value
value_at_place whole place = unwrap_or (option_map bare (part_at_place place whole.tree)) null

-- what a place holds, by what its value is
abbrev pub held_as : Value → Held → sight.Held
held_as v (what.Node n) = stands n
held_as v (what.Target m) = refers (record { safe = false; model = m; identifier = ident_of (Some v) })
held_as v (what.Safe m) = refers (record { safe = true; model = m; identifier = ident_of (Some v) })
held_as v what.Plain = holds v

-- what a place holds; none where it is no place
abbrev pub held_there : Whole → Place → Option sight.Held
held_there whole place = option_map (held_as (value_at_place whole place)) (held_at whole.table place whole.tree)

-- the identifier of a node of a kind
abbrev pub identifier_under : Whole → NodeNo → Option (List ℕ) → Option Ident
identifier_under whole n (Some name) = ident_of (option_map bare (part_at_place (Prop n name) whole.tree))
identifier_under whole n None = None

abbrev pub identifier_by : Whole → NodeNo → Kind → Option Ident
identifier_by whole n (Model m) = identifier_under whole n ((typing_of whole.table).identifier_of m)
identifier_by whole n kind = None

abbrev pub being_by : Whole → NodeNo → Kind → Being
being_by whole n kind = record { kind = kind; identifier = identifier_by whole n kind }

abbrev pub being_of : Whole → NodeNo → Option Being
being_of whole n = option_map (being_by whole n) (kind_at n.0 whole.tree)

-- an item of an array, and an entry of a map
abbrev pub entry_of : Whole → List ℕ → Place → Entry
entry_of whole token place = record { token = token; held = unwrap_or (held_there whole place) (holds null) }

abbrev pub item_entry : Whole → NodeNo → ℕ → Entry
item_entry whole n i = entry_of whole (decimal i) (Item n i)

abbrev pub key_entry : Whole → NodeNo → ℕ → Entry
key_entry whole n i = let key : List ℕ = unwrap_or (key_at n.0 i whole.tree) [] in entry_of whole key (Key n key)

-- how many entries a map has; what has no first key has none
abbrev pub map_size : Whole → NodeNo → ℕ
map_size whole n = if is_some (key_at n.0 0 whole.tree) then unwrap_or (size_at n.0 whole.tree) 0 else 0

-- the items of an array, or the entries of a map, in order
abbrev pub level_by : Whole → NodeNo → Option Kind → List Entry
level_by whole n (Some (Array t)) = map (item_entry whole n) (range_with_len 0 (unwrap_or (size_at n.0 whole.tree) 0))
level_by whole n (Some (Map t)) = map (key_entry whole n) (range_with_len 0 (map_size whole n))
level_by whole n kind = []

abbrev pub level_of : Whole → NodeNo → List Entry
level_of whole n = level_by whole n (kind_at n.0 whole.tree)

abbrev pub prop_of : Whole → NodeNo → List ℕ → Option sight.Held
prop_of whole n name = held_there whole (Prop n name)

abbrev pub place_of : Whole → NodeNo → Path
place_of whole n = unwrap_or (path_to n.0 whole.tree) []

abbrev pub value_of : Whole → NodeNo → Value
value_of whole n = unwrap_or (option_map bare (node_of n.0 whole.tree)) null

abbrev pub known_by : Whole → ModelNo → Ident → Option NodeNo
known_by whole m i = option_map node (resolved (typing_of whole.table) m i whole.tree)

abbrev pub root_of : Whole → NodeNo
root_of whole = node (unwrap_or (option_map (λ l. l.number) (label_of whole.tree)) 0)

-- what is seen of a tree
unfoldable pub sight_of : Whole → Sight
sight_of whole = record {
  root = root_of whole;
  being = being_of whole;
  prop = prop_of whole;
  level = level_of whole;
  place = place_of whole;
  whole = value_of whole;
  known = known_by whole;
}
