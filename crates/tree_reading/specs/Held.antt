-- What stands at a place: a node, the value of a reference or of a safe reference, or any other value.
use Rattle.std.specs.Prelude.{ℕ, List, [], Bool, true, false, Option, Some, None}
use Rattle.std.specs.Option.{option_map, option_and_then}
use Rattle.snap_core.specs.declared.number.ModelNo.{ModelNo}
use Rattle.type_table.specs.Table.{Table, shape_at}
use Rattle.type_table.specs.Identifiers.{is_safe}
use Rattle.type_table.specs.Targets.{target_of}
use Rattle.edit_core.specs.Labelled.{Labelled, leaf, many, keyed}
use Rattle.tree_core.specs.declared.place.Place.{Place}
use Rattle.tree_core.specs.declared.place.Place.TheVariants.{Whole, Prop, Item, Key}
use Rattle.tree_core.specs.Asking.{inner_type}
use Rattle.tree_core.specs.Listing.{node}
use Rattle.tree_core.specs.Nodes.{part_type}
use Rattle.tree_core.specs.Reading.{node_of, node_no, part_of}
use Rattle.tree_core.specs.TypesTyping.{typing_of}
use Rattle.tree_reading.specs.declared.held.Held.{Held}
use Rattle.tree_reading.specs.declared.held.Held.TheVariants as what

-- the key that a place has in its node; an item and the node itself have none
abbrev pub place_key : Place → List ℕ
place_key (Whole n) = []
place_key (Prop n name) = name
place_key (Item n i) = []
place_key (Key n key) = key

-- where a reference leads to a model, safe or not
abbrev pub led : Bool → Option ModelNo → Held
led safe None = what.Plain
led true (Some m) = what.Safe m
led false (Some m) = what.Target m

-- a value that is no node, by its type, seen through names, optionals and maybes
abbrev pub held_by : Table → ℕ → Held
held_by table inner = led (is_safe (shape_at table inner)) (target_of table (shape_at table inner))

abbrev pub held_as : Table → ℕ → Labelled → Held
held_as table t (leaf v) = held_by table (inner_type table t)
held_as table t (many l bs) = what.Node (node l.number)
held_as table t (keyed l es) = what.Node (node l.number)

-- what stands at a place of a node
abbrev pub held_in : Table → Place → Labelled → Option Held
held_in table place x = option_map (held_as table (part_type (typing_of table) x (place_key place))) (part_of place x)

-- what stands at a place; none where it is no place of the tree
abbrev pub held_at : Table → Place → Labelled → Option Held
held_at table place root = option_and_then (held_in table place) (node_of (node_no place) root)
