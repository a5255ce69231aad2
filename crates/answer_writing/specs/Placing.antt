-- The rules of a place by themselves, for an answer that holds nodes: dead, protected, kind, path, index and fixed.
use Rattle.std.specs.Prelude.{◌≡◌, List, [], length, not, nat_le, slice_get, Ok}
use Rattle.snap_core.specs.Value.{null}
use Rattle.pointer_core.specs.Path.{Path}
use Rattle.pointer_core.specs.declared.refusal.Rule.TheVariants as rule
use Rattle.type_table.specs.Table.{Catalog}
use Rattle.type_core.specs.Making.{Outcome}
use Rattle.edit_core.specs.Edit.{Turn}
use Rattle.edit_core.specs.Labelled.{Labelled, bare}
use Rattle.edit_core.specs.Typing.{label_of}
use Rattle.edit_core.specs.Ways.{way_to, part_at}
use Rattle.tree_core.specs.declared.place.Place.{Place}
use Rattle.tree_core.specs.declared.place.Place.TheVariants as place
use Rattle.tree_core.specs.Nodes.{may_write, items_of}
use Rattle.tree_core.specs.Outcome.{◌>>=◌, refuse, provided, or_refuse}
use Rattle.tree_core.specs.Changed.{Changed}
use Rattle.tree_core.specs.Writing.{Tree, Target, Writing, Entry, Item, held_at, entry_path, is_renaming, is_model, is_map, is_array, node_no, name_for, writing_at, written}
use Rattle.eval_core.specs.Answer.{Answer}
use Rattle.answer_writing.specs.Giving.{Giving, sets, inserts, removes, with_value, Site, value_taken, nodes_given}

-- a node as a whole is set, and neither put in nor taken out
abbrev pub whole_judged : Path → Giving → Outcome (Unit {0})
whole_judged named (sets x) = Ok tt
whole_judged named giving = refuse named rule.Path

-- a property is there, and isn't the identifier
abbrev pub property_judged : Writing → Entry → Outcome (Unit {0})
property_judged w e = do
  old ← or_refuse (held_at e) w.named rule.Path
  provided (not (is_renaming w e (bare old) null)) (entry_path w e) rule.Fixed (Ok tt)

-- an item is there, or can be put in
abbrev pub item_judged : Writing → Giving → Item → Outcome (Unit {0})
item_judged w (inserts x) a = provided (nat_le a.index (length (items_of a.node))) w.named rule.Index (Ok tt)
item_judged w giving a = do
  old ← or_refuse (slice_get (items_of a.node) a.index) w.named rule.Index
  Ok tt

-- the place suits its node
abbrev pub part_judged : Writing → Giving → Labelled → Place → Outcome (Unit {0})
part_judged w giving node (place.Whole n) = whole_judged w.named giving
part_judged w giving node (place.Prop n name) = provided (is_model node) [] rule.Kind (property_judged w (record { node = node; key = name }))
part_judged w giving node (place.Item n i) = provided (is_array node) [] rule.Kind (item_judged w giving (record { node = node; index = i }))
part_judged w giving node (place.Key n key) = provided (is_map node) [] rule.Kind (Ok tt)

abbrev pub node_judged : Writing → Giving → Labelled → Place → Outcome (Unit {0})
node_judged w giving node place = do
  label ← or_refuse (label_of node) [] rule.Kind
  part_judged w giving node place

-- the node may be written
abbrev pub site_judged : Catalog → Target → Giving → Tree → List Turn → Outcome Site
site_judged types target giving tree way = provided (may_write target.running way tree.root) (name_for way target) rule.Protected (do
  node ← or_refuse (part_at way tree.root) [] rule.Dead
  one ← node_judged (writing_at types target way tree) giving node target.place
  Ok (record { root = tree.root; way = way; node = node }))

abbrev pub place_judged : Catalog → Target → Giving → Tree → Outcome Site
place_judged types target giving tree = do
  way ← or_refuse (way_to (node_no target.place) tree.root) [] rule.Dead
  site_judged types target giving tree way

-- an answer is given
abbrev pub IsGiven : Giving → Type 0
IsGiven (sets x) = Unit {0}
IsGiven (inserts x) = Unit {0}
IsGiven removes = ⊥

-- the place, the nodes and the value, one after the other
abbrev pub given_in_turn : Catalog → Target → Giving → Answer → Tree → Outcome Changed
given_in_turn types target giving x tree = do
  site ← place_judged types target giving tree
  made ← value_taken types site target.place giving x
  written types target (with_value giving made) tree

-- So an answer that holds nodes is written.
abbrev pub NodesAreGivenInTurn : Type 0
NodesAreGivenInTurn =
    (types : Catalog) (target : Target) (giving : Giving) → IsGiven giving → (x : Answer) (tree : Tree)
    → nodes_given types target giving x tree ≡ given_in_turn types target giving x tree
