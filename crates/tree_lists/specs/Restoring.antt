-- Patches that are put back: each as it stands, without a rule that could refuse it, and what comes in has new nodes.
use Rattle.std.specs.Prelude.{ℕ, ◌+◌, List, [], ◌∷◌, length, slice_get, Option, Some, None, option_and_then, unwrap_or}
use Rattle.std.specs.Option.{option_map}
use Rattle.snap_core.specs.Value.{Value}
use Rattle.patch_core.specs.Application.{index_for, written}
use Rattle.patch_core.specs.declared.patch.PatchOp.{PatchOp}
use Rattle.patch_core.specs.declared.patch.PatchOp.TheVariants.{Add, Replace, Remove}
use Rattle.patch_core.specs.declared.patch.Patch.{Patch}
use Rattle.type_table.specs.Table.{Catalog}
use Rattle.edit_core.specs.Edit.{Turn, to_item, to_entry, replace}
use Rattle.edit_core.specs.Labelled.{Labelled, Entry, leaf, many, keyed, items_in, entries_in}
use Rattle.edit_core.specs.Matching.{by_first}
use Rattle.edit_core.specs.Template.{Template, template, numbered, new_count, entry_at}
use Rattle.edit_core.specs.Ways.{part_at, part_at_turn}
use Rattle.tree_core.specs.TypesTyping.{typing_of}
use Rattle.tree_core.specs.Nodes.{to_key, key_of, part_type}
use Rattle.tree_core.specs.Reading.{way_along}
use Rattle.tree_core.specs.Listing.{Named, named_by}
use Rattle.tree_core.specs.Changed.{Changed, placed, by_edit, part_added, part_removed}
use Rattle.tree_core.specs.Writing.{Tree}
use Rattle.tree_core.specs.State.{State}
use Rattle.tree_core.specs.Recorded.{tree_in, with_change}
use Rattle.tree_lists.specs.Folding.{tree_after, and_then}

-- The turn to a place of a node, and what stands there.
pub record Spot : Type 0 where
  pub turn : Turn
  pub held : Option Labelled

-- an item is put in at an index, and taken out or replaced where it stands
abbrev pub item_spot : PatchOp → List Labelled → ℕ → Spot
item_spot Add xs i = record { turn = to_item i; held = None }
item_spot op xs i = record { turn = to_item i; held = slice_get xs i }

-- the spot that a patch's last token names in a node
abbrev pub spot_in : PatchOp → List ℕ → Labelled → Option Spot
spot_in op token (leaf v) = None
spot_in op token (many l bs) = option_map (item_spot op (items_in bs)) (index_for op (length (items_in bs)) token)
spot_in op token (keyed l es) = Some (record { turn = to_key token (entries_in es); held = entry_at token (entries_in es) })

-- a node that parts are put back into, the types, and the next number
pub record Putting : Type 0 where
  pub types : Catalog
  pub node : Labelled
  pub next : ℕ

-- a value that comes in has new nodes, of the kinds that the type of its place gives them
abbrev pub new_at : Putting → Turn → Value → Template
new_at by turn v = let typing = typing_of by.types.table in template (by_first typing) (part_type typing by.node (key_of turn)) None v

-- another value in the place of a part
abbrev pub replaced_by : Template → ℕ → Labelled → Changed
replaced_by new next old = by_edit (record { way = []; operation = replace old (numbered next new) }) (next + new_count new) old

-- a new part put in at a turn: where a part is held, in its place
abbrev pub put_in : Putting → Template → Turn → Option Labelled → Changed
put_in by new turn (Some old) = placed (turn ∷ []) by.node (replaced_by new by.next old)
put_in by new turn None = part_added turn new by.next by.node

abbrev pub value_put : Putting → Value → Spot → Changed
value_put by v spot = put_in by (new_at by spot.turn v) spot.turn spot.held

-- what an operation makes of the node that holds its place; nothing, where nothing stands there to be replaced or removed
abbrev pub spot_restored : Putting → Value → PatchOp → Spot → Option Changed
spot_restored by v Add spot = Some (value_put by v spot)
spot_restored by v Replace spot = option_map (λ old. value_put by v spot) spot.held
spot_restored by v Remove spot = option_map (λ old. part_removed spot.turn old by.next by.node) spot.held

abbrev pub node_restored : Putting → List ℕ → Patch → Option Changed
node_restored by token p = option_and_then (spot_restored by (written p) p.op) (spot_in p.op token by.node)

-- a patch that is put back into a tree
pub record Restoring : Type 0 where
  pub types : Catalog
  pub tree : Tree
  pub patch : Patch

abbrev pub putting_at : Restoring → Labelled → Putting
putting_at r node = record { types = r.types; node = node; next = r.tree.next }

-- what the patch makes of the node at the end of a way, as a change of the whole
abbrev pub restored_along : Restoring → List ℕ → List Turn → Option Changed
restored_along r token way =
    option_and_then (λ node. option_map (placed way r.tree.root) (node_restored (putting_at r node) token r.patch)) (part_at way r.tree.root)

abbrev pub restored_by : Restoring → Named → Option Changed
restored_by r named = option_and_then (restored_along r named.token) (way_along named.holder r.tree.root)

-- what a patch makes of a tree; nothing, where it names no place of it
abbrev pub one_restored : Restoring → Option Changed
one_restored r = option_and_then (restored_by r) (named_by r.patch.path)

abbrev pub unchanged : Tree → Changed
unchanged tree = record { value = tree.root; edits = []; next = tree.next }

-- each patch in turn; one that names no place changes nothing
abbrev pub restored : Catalog → List Patch → Tree → Changed
restored types [] tree = unchanged tree
restored types (p ∷ ps) tree =
    let first : Changed = unwrap_or (one_restored (record { types = types; tree = tree; patch = p })) (unchanged tree) in
    and_then first (restored types ps (tree_after first))

-- what putting patches back leaves of a state
abbrev pub after_restoring : Catalog → List Patch → State → State
after_restoring types ps s = with_change (restored types ps (tree_in s)) s
