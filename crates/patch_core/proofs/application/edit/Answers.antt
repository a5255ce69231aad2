use Rattle.std.proofs.Common.{subst}
use Rattle.snap_core.specs.Value.{Value, IsOrdered}
use Rattle.snap_core.specs.View.{view}
use Rattle.snap_core.specs.declared.snap.Snap.{Snap}
use Rattle.snap_core.proofs.Views.{view-Dict}
use Rattle.patch_core.proofs.InPlace.{keyed_from_ordered}
use Rattle.patch_core.proofs.application.edit.Goals as goal

pub edit_fields-requires-clause-keyed : goal.edit_fields-requires-clause-keyed
edit_fields-requires-clause-keyed c =
    let P : Snap → Type 0 = λ s. IsOrdered (view s) in
    let Q : Value → Type 0 = λ v. IsOrdered v in
    rw c.in-Dict.fields-is (keyed_from_ordered _ (subst Q (view-Dict c.in-Dict.fields) (subst P c.in-Dict.is c.requires.ordered)))
