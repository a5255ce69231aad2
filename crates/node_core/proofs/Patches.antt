-- The patches that logged edits are.
use Rattle.std.proofs.Common.{◌≡◌, Some, None, sym, ◌∙◌, ap}
use Rattle.snap_core.specs.declared.snap.Snap.{Snap}
use Rattle.snap_core.specs.View.{view}
use Rattle.snap_core.specs.Unview.{snap_of}
use Rattle.snap_core.proofs.Views.{snap_of-view}
use Rattle.pointer_core.specs.Path.{Path}
use Rattle.patch_core.specs.declared.patch.Patch.{Patch}
use Rattle.patch_core.specs.declared.patch.PatchOp.TheVariants.{Add, Remove, Replace}
use Rattle.edit_core.specs.Plain.{patch_at}
use Rattle.node_core.specs.declared.labelled.Labelled.{Labelled}
use Rattle.node_core.specs.declared.edit.Operation.TheVariants as operations
use Rattle.node_core.specs.View.{plain, operation}

pub shown : (s : Snap) (x : Labelled) → view s ≡ plain x → s ≡ snap_of (plain x)
shown s x e = sym (snap_of-view s) ∙ ap snap_of e

pub patch-add : (path place : Path) (s : Snap) (new : Labelled) → path ≡ place → view s ≡ plain new
    → record { op = Add; path = path; value = Some s; old = None } ≡ patch_at place (operation (operations.Add new))
patch-add path place s new at is =
    let patch : Path → Snap → Patch = λ p v. record { op = Add; path = p; value = Some v; old = None } in
    ap (λ p. patch p s) at ∙ ap (patch place) (shown s new is)

pub patch-remove : (path place : Path) (s : Snap) (old : Labelled) → path ≡ place → view s ≡ plain old
    → record { op = Remove; path = path; value = None; old = Some s } ≡ patch_at place (operation (operations.Remove old))
patch-remove path place s old at is =
    let patch : Path → Snap → Patch = λ p v. record { op = Remove; path = p; value = None; old = Some v } in
    ap (λ p. patch p s) at ∙ ap (patch place) (shown s old is)

pub patch-replace : (path place : Path) (s r : Snap) (old new : Labelled) → path ≡ place → view s ≡ plain old → view r ≡ plain new
    → record { op = Replace; path = path; value = Some r; old = Some s } ≡ patch_at place (operation (operations.Replace old new))
patch-replace path place s r old new at was is =
    let patch : Path → Snap → Snap → Patch = λ p v w. record { op = Replace; path = p; value = Some w; old = Some v } in
    ap (λ p. patch p s r) at ∙ ap (λ v. patch place v r) (shown s old was) ∙ ap (patch place (snap_of (plain old))) (shown r new is)
