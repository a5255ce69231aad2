-- Calls that change a tree, and what they did to it.
use Rattle.std.specs.Prelude.{◌≡◌, ◌<◌, ◌^◌, List, length, All, Ok}
use Rattle.snap_core.specs.Value.{IsPlain}
use Rattle.patch_core.specs.Application as patch
use Rattle.patch_core.specs.Fits.{LeadsTo}
use Rattle.patch_core.specs.Inverse.{back}
use Rattle.patch_core.specs.declared.patch.Patch.{Patch}
use Rattle.type_table.specs.Table.{Catalog}
use Rattle.edit_core.specs.Labelled.{bare}
use Rattle.tree_core.specs.Recorded.{GoesOn, after_write, after_list}
use Rattle.tree_core.specs.State.{State}
use Rattle.tree_core.specs.Write.{Write, WritesPlain}
use Rattle.tree_core.specs.Writing.{Target}

-- a write that isn't refused leads from one state to another
pub record Writes (types : Catalog) (before after : State) : Type 0 where
  pub target : Target
  pub write : Write
  pub plain : WritesPlain write
  pub done : after_write types target write before ≡ Ok after

-- so does a list of patches, as many as a list of them can hold
pub record WritesList (types : Catalog) (before after : State) : Type 0 where
  pub patches : List Patch
  pub plain : All (λ p. IsPlain (patch.written p)) patches
  pub few : length patches < 2 ^ 31
  pub done : after_list types patches before ≡ Ok after

-- What was done is in the log: its patches fit in turn and lead from the one snapshot to the other, and their
-- inverses, last first, fit in turn and lead back.
pub record LeadsOn (before after : State) : Type 0 where
  pub on : GoesOn before after
  pub back : LeadsTo (back on.more) (bare after.tree) (bare before.tree)
