-- How the calls that a tree keeps are told: the newest first.
use Rattle.std.specs.Prelude.{◌≡◌, ℕ, List, [], ◌∷◌, map, reverse}
use Rattle.patch_core.specs.declared.patch.Patch.{Patch}
use Rattle.snap_core.specs.Value.{IsPlain}
use Rattle.edit_core.specs.Labelled.{bare}
use Rattle.edit_core.specs.Labelled as edits
use Rattle.edit_core.specs.Logged.{before_log}
use Rattle.edit_core.specs.Numbers.{AreNumbered}
use Rattle.node_core.specs.declared.labelled.Labelled.{Labelled}
use Rattle.node_core.specs.declared.edit.LoggedEdit.{LoggedEdit}
use Rattle.node_core.specs.View.{labelled, edits_of}
use Rattle.tree_core.specs.State.{patches_of}
use Rattle.live_tree.specs.declared.call.Call.{Call}
use Rattle.live_tree.specs.Contents.{Contents, state}

-- the edits of each call, in order
abbrev pub edits_in : List Call → List (List LoggedEdit)
edits_in calls = map (λ (c : Call). c.edits) calls

-- what is kept, as it is told
abbrev pub contents : Labelled → ℕ → List Call → Contents
contents root next calls = record { root = root; next = next; calls = edits_in calls }

-- no two nodes of a snapshot have one number, and its value is plain
abbrev pub IsWell : ℕ → edits.Labelled → Type 0
IsWell next x = AreNumbered next x × IsPlain (bare x)

-- each snapshot that is kept is the one before its call's edits
abbrev pub AreKept : ℕ → edits.Labelled → List Call → Type 0
AreKept next after [] = Unit {0}
AreKept next after (call ∷ calls) =
    (labelled call.before ≡ before_log (edits_of call.edits) after) × IsWell next (labelled call.before) × AreKept next (labelled call.before) calls

-- What holds of a tree's parts.
pub record IsKept (c : Contents) (calls : List Call) (patches : List Patch) : Type 0 where
  pub well : IsWell c.next (labelled c.root)
  pub chained : AreKept c.next (labelled c.root) (reverse calls)
  pub logged : patches ≡ patches_of (state c)
