-- Writing an answer at a place of a tree: nodes are judged once the place is, and before what is made.
use Rattle.std.specs.Prelude.{ℕ, List, [], ◌++◌, length, Bool, true, false, Option, Some, None, Ok, Err, if◌then◌else◌}
use Rattle.snap_core.specs.Value.{Value, null}
use Rattle.pointer_core.specs.Path.{Path}
use Rattle.pointer_core.specs.declared.refusal.Rule.{Rule}
use Rattle.pointer_core.specs.declared.refusal.Rule.TheVariants as rule
use Rattle.type_table.specs.Table.{Table, Catalog}
use Rattle.type_core.specs.Making.{Outcome}
use Rattle.edit_core.specs.declared.kind.Kind.{Kind}
use Rattle.edit_core.specs.declared.kind.Kind.TheVariants as kind
use Rattle.edit_core.specs.Edit.{Turn}
use Rattle.edit_core.specs.Labelled.{Labelled}
use Rattle.edit_core.specs.Typing.{label_of, kind_in}
use Rattle.edit_core.specs.Ways.{way_to, part_at}
use Rattle.tree_core.specs.declared.place.Place.{Place}
use Rattle.tree_core.specs.declared.place.Place.TheVariants as place
use Rattle.tree_core.specs.TypesTyping.{typing_of, root_type}
use Rattle.tree_core.specs.Nodes.{type_at, part_type}
use Rattle.tree_core.specs.Reading.{part_of}
use Rattle.tree_core.specs.Outcome.{◌>>=◌, refuse, or_refuse, seen_from}
use Rattle.tree_core.specs.Changed.{Changed}
use Rattle.tree_core.specs.Write.{Write, set, insert, remove}
use Rattle.tree_core.specs.Writing.{Tree, Target, written, node_no, place_tokens, path_of}
use Rattle.eval_core.specs.Answer.{Answer}
use Rattle.answer_writing.specs.Taking.{Taking, Aim, plain_in, fault_in, answer_made}

-- what is given to a place: an answer that is set or put in there, or nothing, where what stands there is taken out
pub data Giving : Type 0 where
  sets : Answer → Giving
  inserts : Answer → Giving
  removes : Giving

-- a value given in the same way
abbrev pub with_value : Giving → Value → Write
with_value (sets x) v = set v
with_value (inserts x) v = insert v
with_value removes v = remove

-- Where an answer goes.

-- a new item takes the place of nothing; all else takes the place of what stands there
abbrev pub held_for : Giving → Place → Labelled → Option Labelled
held_for (inserts x) (place.Item n i) node = None
held_for giving place node = part_of place node

-- the type by which a node as a whole takes lists that hold nodes: that of its place for an array, and none otherwise
abbrev pub whole_type : Table → Option Kind → ℕ → ℕ
whole_type table (Some (kind.Array u)) t = t
whole_type table kind t = length table.shapes

-- a place of a node, by the type of the node's own place
abbrev pub type_of_place : Table → Labelled → ℕ → Place → ℕ
type_of_place table node t (place.Whole n) = whole_type table (kind_in (label_of node)) t
type_of_place table node t (place.Prop n name) = part_type (typing_of table) node name
type_of_place table node t (place.Item n i) = part_type (typing_of table) node []
type_of_place table node t (place.Key n key) = part_type (typing_of table) node key

-- a node of a tree, with the way to it
pub record Site : Type 0 where
  pub root : Labelled
  pub way : List Turn
  pub node : Labelled

-- the type of a place, and what an answer takes the place of there
abbrev pub aim_at : Catalog → Site → Place → Giving → Aim
aim_at types site place giving =
    record {
      type = type_of_place types.table site.node (type_at (typing_of types.table) (root_type types) site.way site.root) place;
      held = held_for giving place site.node;
    }

abbrev pub place_path : Site → Place → Path
place_path site place = path_of site.way ++ place_tokens place

-- The rules in their order.

-- the rules that are judged of the value that is written, and of the tree that it leads to; all others come before them
abbrev pub is_of_value : Rule → Bool
is_of_value rule.Mistyped = true
is_of_value rule.Refine = true
is_of_value rule.Key = true
is_of_value rule.Large = true
is_of_value rule.Identifier = true
is_of_value rule = false

-- what comes after the rules of the place, which are the same for whatever value is written
abbrev pub after_place : {A : Type 0} → Outcome Changed → Outcome A → Outcome A
after_place (Err e) rest = if is_of_value e.rule then rest else Err e
after_place (Ok changed) rest = rest

-- A node that isn't taken is alive, which is told of the place, or dead.
abbrev pub unless_fault : {A : Type 0} → Path → Option Rule → Outcome A → Outcome A
unless_fault path (Some rule.Dead) rest = refuse [] rule.Dead
unless_fault path (Some r) rest = refuse path r
unless_fault path None rest = rest

-- the value that the type makes of an answer, or the first node that isn't taken
abbrev pub value_taken : Catalog → Site → Place → Giving → Answer → Outcome Value
value_taken types site place giving x =
    let by : Taking = record { types = types; root = site.root } in
    let aim : Aim = aim_at types site place giving in
    let path : Path = place_path site place in
    unless_fault path (fault_in by x aim) (seen_from path (answer_made by x aim))

-- the site of a target in a tree
abbrev pub site_of : Target → Labelled → Outcome Site
site_of target root = do
  way ← or_refuse (way_to (node_no target.place) root) [] rule.Dead
  node ← or_refuse (part_at way root) [] rule.Dead
  Ok (record { root = root; way = way; node = node })

-- An answer that holds nodes: null in its place meets the rules of the place, and no identifier is null.
abbrev pub nodes_given : Catalog → Target → Giving → Answer → Tree → Outcome Changed
nodes_given types target giving x tree = after_place (written types target (with_value giving null) tree) (do
  site ← site_of target tree.root
  made ← value_taken types site target.place giving x
  written types target (with_value giving made) tree)

-- an answer that is a plain value is written as that
abbrev pub answer_given : Catalog → Target → Giving → Answer → Tree → Option Value → Outcome Changed
answer_given types target giving x tree (Some v) = written types target (with_value giving v) tree
answer_given types target giving x tree None = nodes_given types target giving x tree

-- what a write of an answer makes of a tree, or the first rule that it doesn't meet
abbrev pub given : Catalog → Target → Giving → Tree → Outcome Changed
given types target (sets x) tree = answer_given types target (sets x) x tree (plain_in x)
given types target (inserts x) tree = answer_given types target (inserts x) x tree (plain_in x)
given types target removes tree = written types target remove tree
