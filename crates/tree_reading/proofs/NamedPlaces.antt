-- The places that tokens name in nodes.
use Rattle.std.proofs.Common.{◌≡◌, ℕ, List, Some, None, refl}
use Rattle.std.specs.Option.{option_map}
use Rattle.std.specs.Prelude.{length}
use Rattle.std.proofs.lemmas.List.{length-map}
use Rattle.patch_core.specs.Place.{index_below}
use Rattle.edit_core.specs.Labelled as edits
use Rattle.edit_core.specs.Template.{entry_at}
use Rattle.edit_core.proofs.Logged.{items-in, entries-in}
use Rattle.node_core.specs.declared.labelled.Label.{Label}
use Rattle.node_core.specs.declared.labelled.Labelled.{Labelled}
use Rattle.node_core.specs.declared.labelled.Labelled
use Rattle.node_core.specs.declared.labelled.LabelledField.{LabelledField}
use Rattle.node_core.specs.View.{label, labelled, items, fields}
use Rattle.node_core.proofs.Views.{labelled-Array, labelled-Record}
use Rattle.tree_core.specs.declared.place.Place.TheVariants as place
use Rattle.tree_core.specs.Asking.{place_under}
use Rattle.tree_core.specs.Listing.{node, entry_place}

pub place-item : (token : List ℕ) (l : Label) (xs : List Labelled)
    → option_map (place.Item (node (label l).number)) (index_below (length xs) token) ≡ place_under token (labelled (Labelled.Array l xs))
place-item token l xs = rw (labelled-Array l xs, items-in (items xs), length-map xs labelled) refl

pub place-entry : (token : List ℕ) (l : Label) (fs : List LabelledField) (part : edits.Labelled) → Some part ≡ entry_at token (fields fs)
    → Some (entry_place (label l) l.kind token) ≡ place_under token (labelled (Labelled.Record l fs))
place-entry token l fs part held = rw (labelled-Record l fs, entries-in (fields fs), ← held) refl

pub no-place : (token : List ℕ) (l : Label) (fs : List LabelledField) → None ≡ entry_at token (fields fs)
    → None ≡ place_under token (labelled (Labelled.Record l fs))
no-place token l fs held = rw (labelled-Record l fs, entries-in (fields fs), ← held) refl
