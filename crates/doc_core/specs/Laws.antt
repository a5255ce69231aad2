-- What changes of sound documents do.
use Rattle.std.specs.Prelude.{◌≡◌, ◌<◌, ◌^◌, ℕ, List, [], length, All, None, Ok}
use Rattle.snap_core.specs.Value.{Value, Items, IsPlain, ArePlain}
use Rattle.snap_core.specs.declared.number.NodeNo.{NodeNo}
use Rattle.pointer_core.specs.Path.{Path}
use Rattle.patch_core.specs.Fits.{LeadsTo}
use Rattle.patch_core.specs.Inverse.{back}
use Rattle.patch_core.specs.Printing.{HasPlainValues}
use Rattle.patch_core.specs.declared.patch.Patch.{Patch}
use Rattle.type_table.specs.Table.{Catalog}
use Rattle.model_syntax.specs.Shown.{ShownBehaviour}
use Rattle.edit_core.specs.Labelled.{bare}
use Rattle.tree_core.specs.State.{State, patches_of}
use Rattle.tree_laws.specs.Tied.{IsSettled}
use Rattle.tree_laws.specs.Trees.{IsSoundTree}
use Rattle.action_core.specs.Laws.{HasAtomic}
use Rattle.action_core.specs.Layers.{layers_of}
use Rattle.action_laws.specs.Laws.{IsPlainBehaving}
use Rattle.action_laws.specs.Schemas.{behaving_by}
use Rattle.doc_core.specs.Acting.{Acted, acted_on, callee_given, node_pointed}
use Rattle.doc_core.specs.Changing.{patched, replaced}
use Rattle.doc_core.specs.Documents.{IsDocument}

-- a document between requests whose snapshot the root's model makes of itself, and in which no identifier stands twice
pub record IsSoundDocument (types : Catalog) (s : State) : Type 0 where
  pub document : IsDocument types s
  pub sound : IsSoundTree types s

-- A change's patches fit in turn and lead from the snapshot before to the one after, and their inverses, last first, lead
-- back. The snapshot after is sound again, and each safe reference in it that isn't null leads to a node.
pub record ChangesFully (types : Catalog) (before after : State) : Type 0 where
  pub leads : LeadsTo (patches_of after) (bare before.tree) (bare after.tree)
  pub leads_back : LeadsTo (back (patches_of after)) (bare after.tree) (bare before.tree)
  pub sound : IsSoundTree types after
  pub settled : IsSettled types after.tree

-- So do patches, as many as a list of them can hold, and so does a snapshot that is put in the place of a document's own.
-- So does an action, also one that is refused and yet left patches.
pub record ChangesLead : Type 0 where
  pub by_patches : (types : Catalog) (patches : List Patch) (before after : State) → IsSoundDocument types before → All HasPlainValues patches
      → length patches < 2 ^ 31 → patched types patches before ≡ Ok after → ChangesFully types before after
  pub by_snapshot : (types : Catalog) (given : Value) (before after : State) → IsSoundDocument types before → IsPlain given
      → replaced types given before ≡ Ok after → ChangesFully types before after
  pub by_action : (types : Catalog) (behaviours : List ShownBehaviour) (path : Path) (name : List ℕ) (args : Items) (before : State) (acted : Acted)
      → IsPlainBehaving (behaving_by types behaviours) → IsSoundDocument types before → ArePlain args → acted_on types behaviours path name args before ≡ Ok acted
      → ChangesFully types before acted.after

-- Of a settled document, an action that an atomic middleware surrounds ends well, or it refuses the request: nothing is kept
-- of it.
abbrev pub AtomicsKeepAllOrNothing : Type 0
AtomicsKeepAllOrNothing =
    (types : Catalog) (behaviours : List ShownBehaviour) (path : Path) (name : List ℕ) (args : Items) (before : State) (n : NodeNo) (acted : Acted)
    → before.calls ≡ [] → IsSettled types before.tree → node_pointed types path name before.tree ≡ Ok n
    → HasAtomic (layers_of (behaving_by types behaviours) (callee_given n name args) before.tree)
    → acted_on types behaviours path name args before ≡ Ok acted → acted.fault ≡ None
