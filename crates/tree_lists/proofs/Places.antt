-- The places that tokens name in nodes.
use Rattle.std.proofs.Common.{◌≡◌, ℕ, List, length, Option, Some, refl, ap, ◌∙◌}
use Rattle.std.specs.Option.{option_map}
use Rattle.std.proofs.lemmas.List.{length-map}
use Rattle.patch_core.specs.declared.patch.Patch.{Patch}
use Rattle.patch_core.specs.declared.patch.PatchOp.{PatchOp}
use Rattle.patch_core.specs.Application.{index_for}
use Rattle.edit_core.specs.Edit.{Turn}
use Rattle.edit_core.specs.Labelled as edits
use Rattle.edit_core.proofs.Logged.{items-in, entries-in}
use Rattle.edit_core.specs.Template.{entry_at}
use Rattle.node_core.specs.declared.labelled.Label.{Label}
use Rattle.node_core.specs.declared.labelled.Labelled.{Labelled}
use Rattle.node_core.specs.declared.labelled.Labelled
use Rattle.node_core.specs.declared.labelled.LabelledField.{LabelledField}
use Rattle.node_core.specs.View.{label, labelled, items, fields}
use Rattle.node_core.proofs.Views.{labelled-Array, labelled-Record}
use Rattle.tree_core.specs.Nodes.{to_key, entries_of}
use Rattle.tree_core.specs.Listing.{item_place, place_of}
use Rattle.tree_lists.specs.Restoring.{Spot, item_spot, spot_in}

pub place-item : (p : Patch) (token : List ℕ) (l : Label) (xs : List Labelled)
    → item_place p (label l) (index_for p.op (length xs) token) ≡ place_of p token (labelled (Labelled.Array l xs))
place-item p token l xs = rw (labelled-Array l xs, items-in (items xs), length-map xs labelled) refl

pub spot-item : (op : PatchOp) (token : List ℕ) (l : Label) (xs : List Labelled)
    → option_map (item_spot op (items xs)) (index_for op (length xs) token) ≡ spot_in op token (labelled (Labelled.Array l xs))
spot-item op token l xs = rw (labelled-Array l xs, items-in (items xs), length-map xs labelled) refl

pub spot-entry : (op : PatchOp) (token : List ℕ) (l : Label) (fs : List LabelledField) (turn : Turn) (held : Option edits.Labelled)
    → turn ≡ to_key token (entries_of (labelled (Labelled.Record l fs))) → held ≡ entry_at token (fields fs)
    → Some (record { turn = turn; held = held }) ≡ spot_in op token (labelled (Labelled.Record l fs))
spot-entry op token l fs turn held at is =
    let Of : Turn → Option edits.Labelled → Option Spot = λ t h. Some (record { turn = t; held = h }) in
    let to : turn ≡ to_key token (fields fs) = rw (labelled-Record l fs, entries-in (fields fs)) at at in
    rw (labelled-Record l fs, entries-in (fields fs)) (ap (λ t. Of t held) to ∙ ap (Of (to_key token (fields fs))) is)
