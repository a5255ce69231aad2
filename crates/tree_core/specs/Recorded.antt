-- What calls that change a tree leave of its state: each change is recorded as one call.
use Rattle.std.specs.Prelude.{◌≡◌, List, [], ◌++◌, Some, None, Result, Ok, Err}
use Rattle.snap_core.specs.Value.{Value}
use Rattle.patch_core.specs.declared.patch.Patch.{Patch}
use Rattle.patch_core.specs.Fits.{LeadsTo}
use Rattle.type_table.specs.Table.{Catalog}
use Rattle.type_core.specs.Making.{Outcome, making}
use Rattle.type_core.specs.Made.{refused_as}
use Rattle.type_core.specs.Doubled.{identifiers_of, doubled_of}
use Rattle.edit_core.specs.Labelled.{bare}
use Rattle.edit_core.specs.Labelling.{IsLabelledBy}
use Rattle.edit_core.specs.Numbers.{AreNumbered}
use Rattle.edit_core.specs.Template.{template, numbered, new_count}
use Rattle.edit_core.specs.Matching.{by_first}
use Rattle.tree_core.specs.declared.error.TreeError.{TreeError}
use Rattle.tree_core.specs.declared.error.TreeError.TheVariants.{Memory, Refused}
use Rattle.tree_core.specs.TypesTyping.{typing_of, root_type}
use Rattle.tree_core.specs.Changed.{Changed}
use Rattle.tree_core.specs.Write.{Write}
use Rattle.tree_core.specs.Writing.{Tree, Target, written}
use Rattle.tree_core.specs.Listing.{list_written}
use Rattle.tree_core.specs.Settling.{settled}
use Rattle.tree_core.specs.Outcome.{◌>>=◌}
use Rattle.tree_core.specs.State.{State, recorded, patches_of}

-- a tree that nothing was done to since the last commit
abbrev pub state_of : Tree → State
state_of t = record { tree = t.root; next = t.next; calls = [] }

-- the tree of a state, as writes find it
abbrev pub tree_in : State → Tree
tree_in s = record { root = s.tree; next = s.next }

-- a change of the tree, recorded
abbrev pub with_change : Changed → State → State
with_change c s = recorded c.value c.edits c.next s

-- a new tree of a value: all of its nodes are new
abbrev pub new_tree : Catalog → Value → Tree
new_tree types v =
    let new = template (by_first (typing_of types.table)) (root_type types) None v in
    record { root = numbered 0 new; next = new_count new }

-- what a write, a list of patches and settling leave
abbrev pub after_write : Catalog → Target → Write → State → Outcome State
after_write types target write s = do
  changed ← written types target write (tree_in s)
  Ok (with_change changed s)

abbrev pub after_list : Catalog → List Patch → State → Outcome State
after_list types ps s = do
  changed ← list_written types ps (tree_in s)
  Ok (with_change changed s)

abbrev pub after_settling : Catalog → State → State
after_settling types s = with_change (settled types (tree_in s)) s

-- the outcome is what the call left, or the call's refusal, want of memory aside
abbrev pub Leaves : Result (Unit {0}) TreeError → Outcome State → State → Type 0
Leaves (Ok done) outcome now = outcome ≡ Ok now
Leaves (Err (Refused r)) outcome now = outcome ≡ Err (refused_as r)
Leaves (Err Memory) outcome now = Unit {0}

-- a value that a tree can be of: the root's model makes it of itself, and no identifier stands twice
pub record IsSoundValue (types : Catalog) (v : Value) : Type 0 where
  pub made : making types (root_type types) (Some v) ≡ Ok v
  pub single : doubled_of (identifiers_of types v) ≡ None

-- a tree as types say: each node has the kind that its type gives it, no two nodes have one number, and each number is below the next
pub record IsTreeOf (types : Catalog) (s : State) : Type 0 where
  pub labelled : IsLabelledBy (typing_of types.table) (root_type types) s.tree
  pub numbered : AreNumbered s.next s.tree

-- what was done after one state and led to another: patches that were logged, fit in turn and lead from the one snapshot to the other
pub record GoesOn (before after : State) : Type 0 where
  pub more : List Patch
  pub logged : patches_of after ≡ patches_of before ++ more
  pub leads : LeadsTo more (bare before.tree) (bare after.tree)
