-- What a tree is that types stand behind.
use Rattle.std.specs.Prelude.{All}
use Rattle.snap_core.specs.Value.{IsPlain}
use Rattle.patch_core.specs.Printing.{HasPlainValues}
use Rattle.type_table.specs.Table.{Catalog}
use Rattle.edit_core.specs.Labelled.{bare}
use Rattle.tree_core.specs.Recorded.{IsSoundValue, IsTreeOf}
use Rattle.tree_core.specs.State.{State, patches_of}

-- A typed tree: its value and those of its logged patches are plain, each node has the kind that its type gives it, no
-- two nodes have one number, and each number is below the next.
pub record IsTypedTree (types : Catalog) (s : State) : Type 0 where
  pub plain : IsPlain (bare s.tree)
  pub nodes : IsTreeOf types s
  pub logged : All HasPlainValues (patches_of s)

-- A sound tree: besides, the root's model makes its value of itself, and no identifier stands twice in it.
pub record IsSoundTree (types : Catalog) (s : State) : Type 0 where
  pub typed : IsTypedTree types s
  pub value : IsSoundValue types (bare s.tree)
