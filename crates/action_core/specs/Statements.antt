-- What the statements that write name in a tree: a place of a node, and what is given to it.
use Rattle.std.specs.Prelude.{ℕ, suc, ℤ, pos, negsuc, min, List, [], ◌∷◌, ◌++◌, decimal, Option, Some, None, Ok, unwrap_or}
use Rattle.std.specs.Fmt.{signed_decimal}
use Rattle.snap_core.specs.Value.{integer, text}
use Rattle.snap_core.specs.declared.number.NodeNo.{NodeNo}
use Rattle.pointer_core.specs.Path.{Path}
use Rattle.pointer_core.specs.declared.refusal.Rule.TheVariants as rule
use Rattle.type_table.specs.Table.{Catalog}
use Rattle.type_core.specs.Making.{Outcome}
use Rattle.edit_core.specs.declared.kind.Kind.{Kind}
use Rattle.edit_core.specs.declared.kind.Kind.TheVariants as kind
use Rattle.edit_core.specs.Labelled.{Labelled, Branches, Entries, Label, leaf, many, keyed, no_branches, branch, no_entries, entry}
use Rattle.edit_core.specs.Ways.{way_to}
use Rattle.tree_core.specs.declared.place.Place.{Place}
use Rattle.tree_core.specs.declared.place.Place.TheVariants as place
use Rattle.tree_core.specs.Nodes.{may_write}
use Rattle.tree_core.specs.Reading.{node_of, size_at}
use Rattle.tree_core.specs.Outcome.{◌>>=◌, refuse, provided, or_refuse}
use Rattle.tree_core.specs.Changed.{Changed}
use Rattle.tree_core.specs.Writing.{Tree}
use Rattle.eval_core.specs.Answer.{Answer, plain}
use Rattle.answer_writing.specs.Giving.{Giving, given, sets, inserts, removes}
use Rattle.action_core.specs.Behaving.{node_path}

-- A write as a statement names it.
pub record Naming : Type 0 where
  -- the node that is written, and the tokens that lead from it to the place
  pub node : NodeNo
  pub tokens : Path
  -- the place; none where the statement doesn't take such a key
  pub place : Option Place
  pub giving : Giving

-- Keys.

-- an integer as an index: where it is none, the greatest index, which no array reaches
abbrev pub most_index : ℕ
most_index = 4294967295

abbrev pub index_for : ℤ → ℕ
index_for (pos n) = min n most_index
index_for (negsuc n) = most_index

-- the token that a text or an integer is; any other key names the node alone
abbrev pub key_tokens : Answer → Path
key_tokens (plain (text key)) = key ∷ []
key_tokens (plain (integer z)) = signed_decimal z ∷ []
key_tokens x = []

-- the entry of a map under a text, the item of an array at an integer, and either
abbrev pub entry_place : NodeNo → Answer → Option Place
entry_place n (plain (text key)) = Some (place.Key n key)
entry_place n x = None

abbrev pub item_place : NodeNo → Answer → Option Place
item_place n (plain (integer z)) = Some (place.Item n (index_for z))
item_place n x = None

abbrev pub part_place : NodeNo → Answer → Option Place
part_place n (plain (text key)) = Some (place.Key n key)
part_place n x = item_place n x

-- What each statement that writes names.

abbrev pub property_set : NodeNo → List ℕ → Answer → Naming
property_set n name x = record { node = n; tokens = name ∷ []; place = Some (place.Prop n name); giving = sets x }

abbrev pub entry_put : NodeNo → Answer → Answer → Naming
entry_put n key x = record { node = n; tokens = key_tokens key; place = entry_place n key; giving = sets x }

abbrev pub item_inserted : NodeNo → Answer → Answer → Naming
item_inserted n key x = record { node = n; tokens = key_tokens key; place = item_place n key; giving = inserts x }

abbrev pub item_replaced : NodeNo → Answer → Answer → Naming
item_replaced n key x = record { node = n; tokens = key_tokens key; place = item_place n key; giving = sets x }

abbrev pub part_dropped : NodeNo → Answer → Naming
part_dropped n key = record { node = n; tokens = key_tokens key; place = part_place n key; giving = removes }

abbrev pub snapshot_applied : NodeNo → Answer → Naming
snapshot_applied n x = record { node = n; tokens = []; place = Some (place.Whole n); giving = sets x }

-- at an array's end; a model and a map are named there by the number of their parts
abbrev pub item_pushed : NodeNo → Answer → ℕ → Naming
item_pushed n x size = record { node = n; tokens = decimal size ∷ []; place = Some (place.Item n size); giving = inserts x }

-- A key that the statement doesn't take is of the wrong kind, once its node is alive and may be written.
abbrev pub unsuited : List NodeNo → NodeNo → Path → Labelled → Outcome Changed
unsuited running n path root = do
  way ← or_refuse (way_to n.0 root) [] rule.Dead
  provided (may_write running way root) path rule.Protected (refuse [] rule.Kind)

-- at a place, or at none
abbrev pub given_at : Catalog → List NodeNo → Naming → Path → Tree → Option Place → Outcome Changed
given_at types running w path tree (Some at) = given types (record { running = running; place = at; named = Some path }) w.giving tree
given_at types running w path tree None = unsuited running w.node path tree.root

-- what a write that a statement names makes of a tree
abbrev pub named_written : Catalog → List NodeNo → Naming → Tree → Outcome Changed
named_written types running w tree = given_at types running w (node_path w.node tree.root ++ w.tokens) tree w.place

-- a write at the end of an array as it is
abbrev pub pushed : Catalog → List NodeNo → NodeNo → Answer → Tree → Outcome Changed
pushed types running n x tree = named_written types running (item_pushed n x (unwrap_or (size_at n.0 tree.root) 0)) tree

-- Clearing.

-- the items from the last to the first, those before this index left out, and the entries by ascending keys
abbrev pub item_removals : NodeNo → ℕ → Branches Label → List Place
item_removals n i no_branches = []
item_removals n i (branch x bs) = item_removals n (suc i) bs ++ place.Item n i ∷ []

abbrev pub entry_removals : NodeNo → Entries Label → List Place
entry_removals n no_entries = []
entry_removals n (entry key x es) = place.Key n key ∷ entry_removals n es

-- a map is cleared, and a model isn't
abbrev pub kind_removals : NodeNo → Entries Label → Kind → Outcome (List Place)
kind_removals n es (kind.Map t) = Ok (entry_removals n es)
kind_removals n es kind = refuse [] rule.Kind

abbrev pub node_removals : NodeNo → Labelled → Outcome (List Place)
node_removals n (leaf v) = refuse [] rule.Kind
node_removals n (many l bs) = Ok (item_removals n 0 bs)
node_removals n (keyed l es) = kind_removals n es l.kind

-- the places of a node that are removed one after the other where it is cleared
abbrev pub removals : NodeNo → Labelled → Outcome (List Place)
removals n root = do
  node ← or_refuse (node_of n.0 root) [] rule.Dead
  node_removals n node

-- one of them taken out
abbrev pub place_removed : Catalog → List NodeNo → Place → Tree → Outcome Changed
place_removed types running at tree = given types (record { running = running; place = at; named = None }) removes tree
