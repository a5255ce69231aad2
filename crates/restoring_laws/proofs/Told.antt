-- The patch that an operation with a value is, and what an edit of a node must be to be logged as it.
use Rattle.std.proofs.Common.{◌≡◌, ℕ, List, [], ◌∷◌, length, Option, Some, None, Ok, ap, ◌∙◌}
use Rattle.std.specs.Prelude.{unwrap_or}
use Rattle.std.specs.Option.{option_map}
use Rattle.snap_core.specs.Value.{Value, null}
use Rattle.snap_core.specs.View.{view}
use Rattle.snap_core.specs.Unview.{snap_of}
use Rattle.snap_core.specs.declared.snap.Snap.{Snap}
use Rattle.snap_core.proofs.Views.{snap_of-view}
use Rattle.pointer_core.specs.Path.{Path}
use Rattle.patch_core.specs.Application.{edited, written}
use Rattle.patch_core.specs.Fits.{HasValues, IsComplete, FitsPart}
use Rattle.patch_core.specs.declared.patch.PatchOp.{PatchOp}
use Rattle.patch_core.specs.declared.patch.PatchOp.TheVariants.{Add, Replace, Remove}
use Rattle.patch_core.specs.declared.patch.Patch.{Patch}
use Rattle.edit_core.specs.Labelled.{Labelled, bare}
use Rattle.edit_core.specs.Edit.{Operation, Turn}
use Rattle.edit_core.specs.Plain.{token_of, patch_at}
use Rattle.tree_core.specs.Changed.{Changed}

-- the patch of an operation at a path, by the value that it writes and the old one that it finds
abbrev pub told : PatchOp → Path → Value → Option Value → Patch
told Add path v old = record { op = Add; path = path; value = Some (snap_of v); old = None }
told Replace path v old = record { op = Replace; path = path; value = Some (snap_of v); old = option_map snap_of old }
told Remove path v old = record { op = Remove; path = path; value = None; old = option_map snap_of old }

-- a patch with the values of its operation is that patch
told-values : (op : PatchOp) (path : Path) (value old : Option Snap) → HasValues op value old
    → told op path (unwrap_or (option_map view value) null) (option_map view old) ≡ record { op = op; path = path; value = value; old = old }
told-values Add path (Some s) None h =
    let With : Snap → Patch = λ t. record { op = Add; path = path; value = Some t; old = None } in ap With (snap_of-view s)
told-values Add path (Some s) (Some o) h = absurd h
told-values Add path None None h = absurd h
told-values Add path None (Some o) h = absurd h
told-values Replace path (Some s) (Some o) h =
    let New : Snap → Patch = λ t. record { op = Replace; path = path; value = Some t; old = Some (snap_of (view o)) } in
    let Old : Snap → Patch = λ t. record { op = Replace; path = path; value = Some s; old = Some t } in
    ap New (snap_of-view s) ∙ ap Old (snap_of-view o)
told-values Replace path (Some s) None h = absurd h
told-values Replace path None None h = absurd h
told-values Replace path None (Some o) h = absurd h
told-values Remove path None (Some o) h =
    let Old : Snap → Patch = λ t. record { op = Remove; path = path; value = None; old = Some t } in ap Old (snap_of-view o)
told-values Remove path None None h = absurd h
told-values Remove path (Some s) None h = absurd h
told-values Remove path (Some s) (Some o) h = absurd h

pub told-complete : (p : Patch) → IsComplete p → told p.op p.path (written p) (option_map view p.old) ≡ p
told-complete p h = told-values p.op p.path p.value p.old h

-- A change of a node is one edit, at the turn that the token names, which is the patch.
pub record IsTold (op : PatchOp) (token : List ℕ) (v : Value) (old : Option Value) (c : Changed) : Type 0 where
  pub turn : Turn
  pub operation : Operation
  pub edits : c.edits ≡ record { way = turn ∷ []; operation = operation } ∷ []
  pub leads : token_of turn ≡ token
  pub patch : (path : Path) → patch_at path operation ≡ told op path v old

-- What a change makes of a node: by one edit, without labels what the operation makes, and logged as its patch where that fits.
pub record Makes (op : PatchOp) (token : List ℕ) (v : Value) (node : Labelled) (c : Changed) : Type 0 where
  pub value : edited op token v (bare node) ≡ Ok (bare c.value)
  pub single : length c.edits ≡ 1
  pub logged : (old : Option Value) → FitsPart op token old (bare node) → IsTold op token v old c
