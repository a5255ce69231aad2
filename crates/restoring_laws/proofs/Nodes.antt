-- What patches that are put back leave of a tree's nodes.
use Rattle.std.proofs.Common.{List, [], ◌∷◌, All, arith}
use Rattle.snap_core.specs.Value.{IsPlain}
use Rattle.patch_core.specs.Printing.{HasPlainValues}
use Rattle.patch_core.specs.declared.patch.Patch.{Patch}
use Rattle.type_table.specs.Table.{Catalog}
use Rattle.edit_core.specs.Labelled.{bare}
use Rattle.edit_core.specs.Logged.{LoggedEdit}
use Rattle.edit_core.specs.Numbers.{AreNumbered}
use Rattle.tree_core.specs.Changed.{Changed}
use Rattle.tree_core.specs.Recorded.{tree_in}
use Rattle.tree_core.specs.State.{State, recorded}
use Rattle.tree_core.proofs.Keeping.{Keeps}
use Rattle.tree_lists.specs.Restoring.{restored, after_restoring}
use Rattle.tree_lists.proofs.PutBack.{restored-keeps}
use Rattle.restoring_laws.specs.Laws.{KeepsNodesDead}

recorded-nodes : (s : State) (c : Changed) (edits : List LoggedEdit) → AreNumbered s.next s.tree → Keeps s.next s.tree c → KeepsNodesDead s (recorded c.value edits c.next s)
recorded-nodes s c [] numbered keeps =
    record { old = λ n h. omega arith; new = λ n h. omega (arith, numbered.below n h); none = λ n h. numbered.below n h }
recorded-nodes s c (e ∷ es) numbered keeps = record { old = λ n h. keeps.kept n h; new = λ n h. keeps.drawn n h; none = λ n h. keeps.none n h }

pub dead-stay : (types : Catalog) (ps : List Patch) (s : State) → IsPlain (bare s.tree) → AreNumbered s.next s.tree → All HasPlainValues ps
    → KeepsNodesDead s (after_restoring types ps s)
dead-stay types ps s plain numbered values =
    let c : Changed = restored types ps (tree_in s) in
    recorded-nodes s c c.edits numbered (restored-keeps types ps (tree_in s) values numbered plain)
