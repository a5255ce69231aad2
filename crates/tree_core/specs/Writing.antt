-- Writing one place: what a write makes of the node that it is written to, or the first rule that it doesn't meet.
use Rattle.std.specs.Prelude.{ℕ, List, [], ◌∷◌, ◌++◌, length, map, slice_get, Bool, true, false, ◌&&◌, ◌||◌, not, unwrap_or, nat_le, Option, Some, None, Ok, decimal, if◌then◌else◌}
use Rattle.std.specs.Str.{bytes_eq}
use Rattle.snap_core.specs.Value.{Value, integer, text}
use Rattle.snap_core.specs.declared.number.NodeNo.{NodeNo}
use Rattle.pointer_core.specs.Path.{Path}
use Rattle.pointer_core.specs.declared.refusal.Rule.TheVariants as rule
use Rattle.type_table.specs.Table.{Catalog}
use Rattle.type_core.specs.Making.{Outcome, making, entry_making, is_within}
use Rattle.type_core.specs.Doubled.{identifiers_of, doubled_of}
use Rattle.edit_core.specs.declared.kind.Kind.{Kind}
use Rattle.edit_core.specs.declared.kind.Kind.TheVariants as kind
use Rattle.edit_core.specs.Comparing.{is_equal}
use Rattle.edit_core.specs.Labelled.{Labelled, many, keyed, bare}
use Rattle.edit_core.specs.Edit.{Turn, to_item}
use Rattle.edit_core.specs.Typing.{Typing, label_of, kind_in, field_at, is_kind}
use Rattle.edit_core.specs.Template.{template, entry_at}
use Rattle.edit_core.specs.Matching.{by_first}
use Rattle.edit_core.specs.Reconciling.{Setting}
use Rattle.edit_core.specs.Plain.{token_of}
use Rattle.tree_core.specs.declared.place.Place.{Place}
use Rattle.tree_core.specs.declared.place.Place.TheVariants as place
use Rattle.tree_core.specs.Write.{Write, set, insert, remove}
use Rattle.tree_core.specs.TypesTyping.{typing_of, root_type, model_type}
use Rattle.edit_core.specs.Ways.{way_to, part_at}
use Rattle.tree_core.specs.Nodes.{may_write, type_at, to_key, entries_of, items_of, part_type}
use Rattle.tree_core.specs.Outcome.{◌>>=◌, refuse, provided, or_refuse, seen_from}
use Rattle.tree_core.specs.Changed.{Changed, placed, value_set, one_item_set, part_added, part_removed}

-- a labelled snapshot and the next number
pub record Tree : Type 0 where
  pub root : Labelled
  pub next : ℕ

-- what a write to a node goes by
pub record Writing : Type 0 where
  pub types : Catalog
  -- the path of the node that is written, and the type of its place
  pub node : Path
  pub type : ℕ
  -- the path that the written place was named by
  pub named : Path
  pub next : ℕ

abbrev pub typing_in : Writing → Typing
typing_in w = typing_of w.types.table

-- a value that is set in the place of an old one
abbrev pub setting : ℕ → Labelled → Value → ℕ → Setting
setting t old new next = record { type = t; old = old; new = new; next = next }

-- The identifier of a model is fixed.

-- a property is its model's identifier
abbrev pub is_name : List ℕ → Option (List ℕ) → Bool
is_name name (Some other) = bytes_eq name other
is_name name None = false

abbrev pub is_identifier_of : Typing → Option Kind → List ℕ → Bool
is_identifier_of typing (Some (kind.Model m)) name = is_name name (typing.identifier_of m)
is_identifier_of typing kind name = false

abbrev pub is_identifier : Typing → Labelled → List ℕ → Bool
is_identifier typing node name = is_identifier_of typing (kind_in (label_of node)) name

abbrev pub is_text : Value → Bool
is_text (text s) = true
is_text v = false

abbrev pub is_integer : Value → Bool
is_integer (integer z) = true
is_integer v = false

-- two texts, or two integers, that aren't the same
abbrev pub are_others : Value → Value → Bool
are_others old new = ((is_text old && is_text new) || (is_integer old && is_integer new)) && not (is_equal old new)

abbrev pub others_held : Option Labelled → Option Value → Bool
others_held (Some old) (Some new) = are_others (bare old) new
others_held _ _ = false

-- the identifier that a record gives another value of the right kind, if it does
abbrev pub other_under : Option (List ℕ) → Labelled → Value → Option (List ℕ)
other_under (Some name) node new = if others_held (entry_at name (entries_of node)) (field_at name new) then Some name else None
other_under None node new = None

abbrev pub other_identifier : Typing → Kind → Labelled → Value → Option (List ℕ)
other_identifier typing (kind.Model m) node new = other_under (typing.identifier_of m) node new
other_identifier typing kind node new = None

abbrev pub unless_fixed : {A : Type 0} → Path → Option (List ℕ) → Outcome A → Outcome A
unless_fixed node (Some name) rest = refuse (node ++ name ∷ []) rule.Fixed
unless_fixed node None rest = rest

-- A node as a whole.

-- a node is set, and neither put in nor taken out
abbrev pub snapshot_in : Path → Write → Outcome Value
snapshot_in named (set v) = Ok v
snapshot_in named write = refuse named rule.Path

-- a model's own type, and for an array and a map the type of its place
abbrev pub own_type : Catalog → Kind → ℕ → ℕ
own_type types (kind.Model m) t = model_type types m
own_type types kind t = t

-- a value that a node takes: a model by its own type, and an array or a map where its place's type makes one of the kind
abbrev pub node_making : Catalog → Kind → ℕ → Value → Outcome Value
node_making types (kind.Model m) t v = making types (model_type types m) (Some v)
node_making types kind t v =
    provided (is_kind ((typing_of types.table).kind_of t v) kind) [] rule.Mistyped (making types t (Some v))

abbrev pub whole_made : Writing → Kind → Value → Labelled → Outcome Changed
whole_made w kind v node = do
  made ← seen_from w.node (node_making w.types kind w.type v)
  Ok (value_set (typing_in w) (setting (own_type w.types kind w.type) node made w.next))

abbrev pub whole_set : Writing → Kind → Value → Labelled → Outcome Changed
whole_set w kind v node = unless_fixed w.node (other_identifier (typing_in w) kind node v) (whole_made w kind v node)

abbrev pub whole_written : Writing → Kind → Write → Labelled → Outcome Changed
whole_written w kind write node = do
  v ← snapshot_in w.named write
  whole_set w kind v node

-- A property of a model.

-- a property is set, and not taken out
abbrev pub property_in : Path → Write → Outcome Value
property_in named (set v) = Ok v
property_in named (insert v) = Ok v
property_in named remove = refuse named rule.Operation

-- a part of a node that is written, by its key
pub record Entry : Type 0 where
  pub node : Labelled
  pub key : List ℕ

-- its path and its type, and what it holds
abbrev pub entry_path : Writing → Entry → Path
entry_path w e = w.node ++ e.key ∷ []

abbrev pub entry_type : Writing → Entry → ℕ
entry_type w e = part_type (typing_in w) e.node e.key

abbrev pub held_at : Entry → Option Labelled
held_at e = entry_at e.key (entries_of e.node)

abbrev pub turn_to : Entry → Turn
turn_to e = to_key e.key (entries_of e.node)

-- the identifier's property is given another value
abbrev pub is_renaming : Writing → Entry → Value → Value → Bool
is_renaming w e old new = is_identifier (typing_in w) e.node e.key && not (is_equal old new)

-- another value in the place of the one that is held
abbrev pub entry_set : Writing → Entry → Labelled → Value → Changed
entry_set w e old made =
    placed (turn_to e ∷ []) e.node (value_set (typing_in w) (setting (entry_type w e) old made w.next))

abbrev pub property_set : Writing → Entry → Labelled → Value → Outcome Changed
property_set w e old v = provided (not (is_renaming w e (bare old) v)) (entry_path w e) rule.Fixed (do
  made ← seen_from (entry_path w e) (making w.types (entry_type w e) (Some v))
  Ok (entry_set w e old made))

abbrev pub property_written : Writing → Entry → Write → Outcome Changed
property_written w e write = do
  old ← or_refuse (held_at e) w.named rule.Path
  v ← property_in w.named write
  property_set w e old v

-- A value of a map.

-- in the place of the held value, or as a new entry
abbrev pub key_set : Writing → Entry → Value → Option Labelled → Changed
key_set w e made (Some old) = entry_set w e old made
key_set w e made None =
    part_added (turn_to e) (template (by_first (typing_in w)) (entry_type w e) None made) w.next e.node

abbrev pub key_put : Writing → Entry → Value → Outcome Changed
key_put w e v = do
  made ← seen_from (entry_path w e) (entry_making w.types (entry_type w e) e.key v)
  Ok (key_set w e made (held_at e))

abbrev pub key_removed : Writing → Entry → Outcome Changed
key_removed w e = do
  old ← or_refuse (held_at e) w.named rule.Path
  Ok (part_removed (turn_to e) old w.next e.node)

abbrev pub key_written : Writing → Entry → Write → Outcome Changed
key_written w e (set v) = key_put w e v
key_written w e (insert v) = key_put w e v
key_written w e remove = key_removed w e

-- An item of an array.

-- an item that is written, by its index
pub record Item : Type 0 where
  pub node : Labelled
  pub index : ℕ

abbrev pub item_type : Writing → Item → ℕ
item_type w a = part_type (typing_in w) a.node []

abbrev pub item_making : Writing → Item → Value → Outcome Value
item_making w a v = seen_from (w.node ++ decimal a.index ∷ []) (making w.types (item_type w a) (Some v))

abbrev pub item_put : Writing → Item → Labelled → Value → Outcome Changed
item_put w a old v = do
  made ← item_making w a v
  Ok (placed (to_item a.index ∷ []) a.node (one_item_set (typing_in w) (setting (item_type w a) old made w.next)))

abbrev pub item_replaced : Writing → Item → Value → Outcome Changed
item_replaced w a v = do
  old ← or_refuse (slice_get (items_of a.node) a.index) w.named rule.Index
  item_put w a old v

abbrev pub item_inserted : Writing → Item → Value → Outcome Changed
item_inserted w a v = provided (nat_le a.index (length (items_of a.node))) w.named rule.Index (do
  made ← item_making w a v
  Ok (part_added (to_item a.index) (template (by_first (typing_in w)) (item_type w a) None made) w.next a.node))

abbrev pub item_removed : Writing → Item → Outcome Changed
item_removed w a = do
  old ← or_refuse (slice_get (items_of a.node) a.index) w.named rule.Index
  Ok (part_removed (to_item a.index) old w.next a.node)

abbrev pub item_written : Writing → Item → Write → Outcome Changed
item_written w a (set v) = item_replaced w a v
item_written w a (insert v) = item_inserted w a v
item_written w a remove = item_removed w a

-- A place of a node: its form suits the node's kind.

abbrev pub model_kind : Kind → Bool
model_kind (kind.Model m) = true
model_kind kind = false

abbrev pub map_kind : Kind → Bool
map_kind (kind.Map t) = true
map_kind kind = false

abbrev pub array_kind : Kind → Bool
array_kind (kind.Array t) = true
array_kind kind = false

abbrev pub is_model : Labelled → Bool
is_model (keyed l es) = model_kind l.kind
is_model node = false

abbrev pub is_map : Labelled → Bool
is_map (keyed l es) = map_kind l.kind
is_map node = false

abbrev pub is_array : Labelled → Bool
is_array (many l bs) = array_kind l.kind
is_array node = false

-- the rest, where the kind is one of those
abbrev pub suited : Bool → Outcome Changed → Outcome Changed
suited suits rest = provided suits [] rule.Kind rest

abbrev pub kind_written : Writing → Place → Write → Labelled → Kind → Outcome Changed
kind_written w (place.Whole n) write node kind = whole_written w kind write node
kind_written w (place.Prop n name) write node kind = suited (is_model node) (property_written w (record { node = node; key = name }) write)
kind_written w (place.Item n i) write node kind = suited (is_array node) (item_written w (record { node = node; index = i }) write)
kind_written w (place.Key n key) write node kind = suited (is_map node) (key_written w (record { node = node; key = key }) write)

abbrev pub node_written : Writing → Place → Write → Labelled → Outcome Changed
node_written w place write node = do
  label ← or_refuse (label_of node) [] rule.Kind
  kind_written w place write node label.kind

-- A place of a tree.

abbrev pub node_no : Place → ℕ
node_no (place.Whole n) = n.0
node_no (place.Prop n name) = n.0
node_no (place.Item n i) = n.0
node_no (place.Key n key) = n.0

-- what leads from a node to a place of it
abbrev pub place_tokens : Place → Path
place_tokens (place.Whole n) = []
place_tokens (place.Prop n name) = name ∷ []
place_tokens (place.Item n i) = decimal i ∷ []
place_tokens (place.Key n key) = key ∷ []

abbrev pub path_of : List Turn → Path
path_of way = map token_of way

-- a place that is written on behalf of running nodes; a name for it where it was named otherwise
pub record Target : Type 0 where
  pub running : List NodeNo
  pub place : Place
  pub named : Option Path

abbrev pub name_for : List Turn → Target → Path
name_for way target = unwrap_or target.named (path_of way ++ place_tokens target.place)

abbrev pub writing_at : Catalog → Target → List Turn → Tree → Writing
writing_at types target way tree = record {
  types = types;
  node = path_of way;
  type = type_at (typing_of types.table) (root_type types) way tree.root;
  named = name_for way target;
  next = tree.next;
}

-- the node of a tree at the end of a way
pub record Site : Type 0 where
  pub tree : Tree
  pub way : List Turn

abbrev pub written_at : Catalog → Target → Write → Site → Outcome Changed
written_at types target write site =
    provided (may_write target.running site.way site.tree.root) (name_for site.way target) rule.Protected (do
      node ← or_refuse (part_at site.way site.tree.root) [] rule.Dead
      changed ← node_written (writing_at types target site.way site.tree) target.place write node
      Ok (placed site.way site.tree.root changed))

-- what a write makes of a tree, before the tree is judged as a whole
abbrev pub place_written : Catalog → Target → Write → Tree → Outcome Changed
place_written types target write tree = do
  way ← or_refuse (way_to (node_no target.place) tree.root) [] rule.Dead
  written_at types target write (record { tree = tree; way = way })

-- the whole tree is neither too heavy nor too deep
abbrev pub limited_tree : Changed → Outcome Changed
limited_tree changed = provided (is_within (bare changed.value)) [] rule.Large (Ok changed)

-- no two models of one type have the same identifier
abbrev pub unless_doubled : Option Path → Changed → Outcome Changed
unless_doubled (Some path) changed = refuse path rule.Identifier
unless_doubled None changed = Ok changed

abbrev pub undoubled : Catalog → Changed → Outcome Changed
undoubled types changed = unless_doubled (doubled_of (identifiers_of types (bare changed.value))) changed

-- a changed tree that meets both
abbrev pub judged : Catalog → Changed → Outcome Changed
judged types changed = do
  within ← limited_tree changed
  undoubled types within

-- what a write makes of a tree, or the first rule that it doesn't meet
abbrev pub written : Catalog → Target → Write → Tree → Outcome Changed
written types target write tree = do
  changed ← place_written types target write tree
  judged types changed
