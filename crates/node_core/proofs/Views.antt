-- What each variant and each field is seen as.
use Rattle.std.proofs.Common.{◌≡◌, List, ◌∷◌, sym, ◌∙◌, ap}
use Rattle.snap_core.specs.Value.{member}
use Rattle.snap_core.specs.View.{view}
use Rattle.snap_core.specs.declared.snap.Snap.{Snap}
use Rattle.edit_core.specs.Labelled as edits
use Rattle.edit_core.specs.Labelled.{Entry, leaf, many, keyed, branches, entries, bare, bare_fields}
use Rattle.node_core.specs.declared.labelled.Label.{Label}
use Rattle.node_core.specs.declared.labelled.Labelled.{Labelled}
use Rattle.node_core.specs.declared.labelled.Labelled
use Rattle.node_core.specs.declared.labelled.Labelled.TheFolds.{fold-roll-Labelled, fold_out-LabelledField}
use Rattle.node_core.specs.declared.labelled.Labelled.TheOpen.{Labelled-F}
use Rattle.node_core.specs.declared.labelled.Labelled.TheVariants.{rolls-Leaf, rolls-Array, rolls-Record}
use Rattle.node_core.specs.declared.labelled.LabelledField.{LabelledField}
use Rattle.node_core.specs.View.{label, labelled, labelled_step, field_step, field, items, fields, plain, plain_fields}

pub field-is : (f : LabelledField) → field f ≡ (f.key, labelled f.value)
field-is f = fold_out-LabelledField edits.Labelled Entry labelled_step field_step f

pub labelled-Leaf : (v : Snap) → labelled (Labelled.Leaf v) ≡ leaf (view v)
labelled-Leaf v = ap labelled (sym (rolls-Leaf v)) ∙ fold-roll-Labelled edits.Labelled Entry labelled_step field_step (Labelled-F.Leaf v)

pub labelled-Array : (l : Label) (xs : List Labelled) → labelled (Labelled.Array l xs) ≡ many (label l) (branches (items xs))
labelled-Array l xs = ap labelled (sym (rolls-Array l xs)) ∙ fold-roll-Labelled edits.Labelled Entry labelled_step field_step (Labelled-F.Array l xs)

pub labelled-Record : (l : Label) (fs : List LabelledField) → labelled (Labelled.Record l fs) ≡ keyed (label l) (entries (fields fs))
labelled-Record l fs = ap labelled (sym (rolls-Record l fs)) ∙ fold-roll-Labelled edits.Labelled Entry labelled_step field_step (Labelled-F.Record l fs)

pub plain_fields-cons : (f : LabelledField) (fs : List LabelledField) → plain_fields (f ∷ fs) ≡ member f.key (plain f.value) (plain_fields fs)
plain_fields-cons f fs = ap (λ e. member e.0 (bare e.1) (plain_fields fs)) (field-is f)
