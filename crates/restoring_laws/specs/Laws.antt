-- What putting patches back makes of a tree.
use Rattle.std.specs.Prelude.{◌≡◌, ℕ, ◌+◌, ◌<◌, ◌≤◌, List, [], ◌∷◌, ◌++◌, length, All, Some, Ok}
use Rattle.snap_core.specs.Value.{Value, IsPlain}
use Rattle.patch_core.specs.Application.{applied}
use Rattle.patch_core.specs.Fits.{LeadsTo}
use Rattle.patch_core.specs.Inverse.{back}
use Rattle.patch_core.specs.Printing.{HasPlainValues}
use Rattle.patch_core.specs.declared.patch.Patch.{Patch}
use Rattle.type_table.specs.Table.{Catalog}
use Rattle.type_core.specs.Sound.{IsSound}
use Rattle.edit_core.specs.Labelled.{bare}
use Rattle.edit_core.specs.Numbers.{times, AreNumbered}
use Rattle.tree_core.specs.Changed.{Changed}
use Rattle.tree_core.specs.Recorded.{tree_in}
use Rattle.tree_core.specs.State.{State, mark_of, patches_of}
use Rattle.tree_lists.specs.Restoring.{Restoring, one_restored, after_restoring}
use Rattle.tree_laws.specs.Calls.{Writes, WritesList, LeadsOn}
use Rattle.tree_laws.specs.Trees.{IsTypedTree, IsSoundTree}
use Rattle.restoring_laws.specs.Places.{AreInNodes}

-- The tree is without its labels a value, and the log went on with exactly these patches.
pub record ArePutBack (ps : List Patch) (v : Value) (before after : State) : Type 0 where
  pub value : bare after.tree ≡ v
  pub logged : patches_of after ≡ patches_of before ++ ps

-- Where patches with plain values lead from a tree's snapshot to a value, each of them fitting in its turn, and the
-- place of each is in a node, putting them back makes of the tree that value and logs exactly these patches.
abbrev pub PuttingBackApplies : Type 0
PuttingBackApplies =
    (types : Catalog) (ps : List Patch) (s : State) (v : Value) → IsPlain (bare s.tree) → All HasPlainValues ps → AreInNodes types ps (tree_in s)
    → LeadsTo ps (bare s.tree) v → ArePutBack ps v s (after_restoring types ps s)

-- the log grows by as many patches as are put back
abbrev pub IsCounted : Catalog → List Patch → State → Type 0
IsCounted types ps s = mark_of (after_restoring types ps s) ≡ mark_of s + length ps

-- so they do where the log grows by as many patches, wherever their places are
abbrev pub CountedArePutBack : Type 0
CountedArePutBack =
    (types : Catalog) (ps : List Patch) (s : State) (v : Value) → IsPlain (bare s.tree) → All HasPlainValues ps → IsCounted types ps s
    → LeadsTo ps (bare s.tree) v → ArePutBack ps v s (after_restoring types ps s)

-- A patch that changes a tree when it is put back makes of its snapshot what applying it makes, be its old value what
-- stands there or not.
abbrev pub EachIsApplied : Type 0
EachIsApplied =
    (r : Restoring) (c : Changed) → IsPlain (bare r.tree.root) → HasPlainValues r.patch → one_restored r ≡ Some c
    → applied r.patch (bare r.tree.root) ≡ Ok (bare c.value)

-- applied in turn, patches make of one value another
abbrev pub ApplyInTurn : List Patch → Value → Value → Type 0
ApplyInTurn [] s t = s ≡ t
ApplyInTurn (p ∷ ps) s t = (next : Value) × (applied p s ≡ Ok next) × ApplyInTurn ps next t

-- where the log grows by as many patches, each is applied in its turn, whether they fit or not
abbrev pub CountedAreApplied : Type 0
CountedAreApplied =
    (types : Catalog) (ps : List Patch) (s : State) → IsPlain (bare s.tree) → All HasPlainValues ps → IsCounted types ps s
    → ApplyInTurn ps (bare s.tree) (bare (after_restoring types ps s).tree)

-- What a call did is undone: put back on a tree with the snapshot that it left, the inverses of its patches, last first,
-- give the snapshot before it, where the log grows by as many.
abbrev pub CallsAreUndone : Type 0
CallsAreUndone =
    (types : Catalog) (before after : State) (call : LeadsOn before after) → IsTypedTree types after
    → (s : State) → bare s.tree ≡ bare after.tree → IsCounted types (back call.on.more) s
    → ArePutBack (back call.on.more) (bare before.tree) s (after_restoring types (back call.on.more) s)

-- A write of a sound tree that logged one patch is undone by its inverse; nothing is asked of the log.
abbrev pub SingleWritesAreUndone : Type 0
SingleWritesAreUndone =
    (types : Catalog) → IsSound types → (before after : State) → IsSoundTree types before → Writes types before after
    → (call : LeadsOn before after) → length call.on.more ≡ 1
    → ArePutBack (back call.on.more) (bare before.tree) after (after_restoring types (back call.on.more) after)

-- So is a list of one patch.
abbrev pub SinglePatchesAreUndone : Type 0
SinglePatchesAreUndone =
    (types : Catalog) → IsSound types → (before after : State) → IsSoundTree types before → (w : WritesList types before after) → length w.patches ≡ 1
    → (call : LeadsOn before after) → length call.on.more ≡ 1
    → ArePutBack (back call.on.more) (bare before.tree) after (after_restoring types (back call.on.more) after)

-- And what a call did is done again: its patches, put back on a tree with the snapshot before it, give the one that it left.
abbrev pub CallsAreRedone : Type 0
CallsAreRedone =
    (types : Catalog) (before after : State) (call : LeadsOn before after) → IsTypedTree types before → IsTypedTree types after
    → (s : State) → bare s.tree ≡ bare before.tree → IsCounted types call.on.more s
    → ArePutBack call.on.more (bare after.tree) s (after_restoring types call.on.more s)

-- Which nodes stand in a tree after a change of it: of those before, each at most as often; all others are new.
pub record KeepsNodesDead (before after : State) : Type 0 where
  pub old : (n : ℕ) → n < before.next → times n after.tree ≤ times n before.tree
  pub new : (n : ℕ) → before.next ≤ n → times n after.tree ≤ 1
  pub none : (n : ℕ) → after.next ≤ n → times n after.tree ≡ 0

-- so it is after patches are put back, whether they fit or not: no node that is dead comes back
abbrev pub DeadNodesStayDead : Type 0
DeadNodesStayDead =
    (types : Catalog) (ps : List Patch) (s : State) → IsPlain (bare s.tree) → AreNumbered s.next s.tree → All HasPlainValues ps
    → KeepsNodesDead s (after_restoring types ps s)
