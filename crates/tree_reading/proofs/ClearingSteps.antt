-- The edits of settling from a part on, and the identifiers that are met from a part on.
use Rattle.std.proofs.Common.{◌≡◌, ℕ, ◌+◌, ◌<◌, List, ◌∷◌, ◌++◌, length, map, get_or, drop, drop-cons, add-one, if◌then◌else◌, refl}
use Rattle.edit_core.specs.declared.kind.Kind.{Kind}
use Rattle.edit_core.specs.Labelled.{branches, entries}
use Rattle.edit_core.specs.Edit.{to_item, to_entry}
use Rattle.edit_core.specs.Logged.{behind}
use Rattle.node_core.specs.declared.labelled.Labelled.{Labelled}
use Rattle.node_core.specs.declared.labelled.LabelledField.{LabelledField}
use Rattle.node_core.specs.View.{labelled, items, fields}
use Rattle.node_core.proofs.Views.{field-is}
use Rattle.tree_core.specs.TypesTyping.{type_under}
use Rattle.tree_core.specs.Settling.{Settling, is_loose, settling_edits, items_settling, item_removal, item_removals, entries_settling, cleared, behind_cleared}

here : {A : Type 0} (xs : List A) (i : ℕ) (x : A) → x ≡ get_or xs i x → i < length xs → drop i xs ≡ x ∷ drop (i + 1) xs
here xs i x is inside = rw (add-one, drop-cons xs i x, ← is) refl

pub item-step : (s : Settling) (xs : List Labelled) (i : ℕ) (x : Labelled) → x ≡ get_or xs i x → i < length xs
    → items_settling s i (branches (items (drop i xs)))
    ≡ map (behind (to_item i)) (settling_edits s (labelled x)) ++ items_settling s (i + 1) (branches (items (drop (i + 1) xs)))
item-step s xs i x is inside = rw (here xs i x is inside) refl

pub removal-step : (s : Settling) (t : ℕ) (xs : List Labelled) (i : ℕ) (x : Labelled) → x ≡ get_or xs i x → i < length xs
    → item_removals s t i (branches (items (drop i xs)))
    ≡ item_removals s t (i + 1) (branches (items (drop (i + 1) xs))) ++ item_removal (is_loose s t (labelled x)) i (labelled x)
removal-step s t xs i x is inside = rw (here xs i x is inside) refl

pub entry-step : (s : Settling) (kind : Kind) (at : ℕ) (fs : List LabelledField) (i : ℕ) (f : LabelledField) → f ≡ get_or fs i f → i < length fs
    → entries_settling s kind at (entries (fields (drop i fs)))
    ≡ (if is_loose s (type_under s.table kind f.key) (labelled f.value)
    then cleared kind at f.key (labelled f.value) ∷ entries_settling s kind (behind_cleared kind at) (entries (fields (drop (i + 1) fs)))
    else map (behind (to_entry at f.key)) (settling_edits s (labelled f.value)) ++ entries_settling s kind (at + 1) (entries (fields (drop (i + 1) fs))))
entry-step s kind at fs i f is inside = rw (here fs i f is inside, field-is f) refl
