-- The parts of labelled values, and the ways to them.
use Rattle.std.proofs.Common.{◌≡◌, ℕ, zero, suc, ◌+◌, ◌<◌, ◌≤◌, List, [], ◌∷◌, ◌++◌, length, get_or, drop, drop-cons, add-one, take, Some, None, refl, sym, ◌∙◌, ap, arith}
use Rattle.std.specs.Prelude.{slice_get}
use Rattle.std.specs.Option.{option_map}
use Rattle.std.proofs.lemmas.Option.{slice_get-map, slice_get-get_or}
use Rattle.edit_core.specs.Labelled as edits
use Rattle.edit_core.specs.Labelled.{branches, entries}
use Rattle.edit_core.specs.Edit.{to_item, to_entry}
use Rattle.edit_core.specs.Application.{item_changed, entry_changed}
use Rattle.edit_core.specs.Ways.{part_at_turn, led_by, way_to, way_among_items, way_among_entries}
use Rattle.edit_core.proofs.Logged.{items-in, entries-in}
use Rattle.node_core.specs.declared.labelled.Label.{Label}
use Rattle.node_core.specs.declared.labelled.Labelled.{Labelled}
use Rattle.node_core.specs.declared.labelled.Labelled
use Rattle.node_core.specs.declared.labelled.LabelledField.{LabelledField}
use Rattle.node_core.specs.View.{labelled, field, items, fields}
use Rattle.node_core.proofs.Views.{labelled-Array, labelled-Record, field-is}

pub part-item : (l : Label) (xs : List Labelled) (i : ℕ) → option_map labelled (slice_get xs i) ≡ part_at_turn (to_item i) (labelled (Labelled.Array l xs))
part-item l xs i = rw (labelled-Array l xs, items-in (items xs)) (sym (slice_get-map labelled xs i))

pub part-entry : (l : Label) (fs : List LabelledField) (i : ℕ) (key : List ℕ) → option_map (λ e. e.1) (slice_get (fields fs) i) ≡ part_at_turn (to_entry i key) (labelled (Labelled.Record l fs))
part-entry l fs i key = rw (labelled-Record l fs, entries-in (fields fs)) refl

pub value-there : (fs : List LabelledField) (i : ℕ) (f : LabelledField) → f ≡ get_or fs i f → i < length fs
    → Some (labelled f.value) ≡ option_map (λ e. e.1) (slice_get (fields fs) i)
value-there fs i f is inside =
    ap (λ e. Some e.1) (sym (field-is f))
    ∙ ap (option_map (λ e. e.1)) (ap (λ g. Some (field g)) is ∙ ap (option_map field) (sym (slice_get-get_or fs i f inside)) ∙ sym (slice_get-map field fs i))

past-end : {A : Type 0} (xs : List A) (i : ℕ) → length xs ≤ i → slice_get xs i ≡ None
past-end [] i out = refl
past-end (x ∷ xs) zero out = absurd (omega arith)
past-end (x ∷ xs) (suc i) out = past-end xs i (omega arith)

pub value-not-there : (fs : List LabelledField) (i : ℕ) → length fs ≤ i → None ≡ option_map (λ e. e.1) (slice_get (fields fs) i)
value-not-there fs i out = sym (ap (option_map (λ e. e.1)) (slice_get-map field fs i ∙ ap (option_map field) (past-end fs i out)))

-- the way among parts from an index on, by the part there

pub way-from-item : (n : ℕ) (xs : List Labelled) (i : ℕ) (x : Labelled) → x ≡ get_or xs i x → i < length xs
    → way_among_items n i (branches (items (drop i xs))) ≡ led_by (to_item i) (way_to n (labelled x)) (way_among_items n (i + 1) (branches (items (drop (i + 1) xs))))
way-from-item n xs i x is inside = rw (add-one, drop-cons xs i x, ← is) refl

pub way-from-entry : (n : ℕ) (fs : List LabelledField) (i : ℕ) (f : LabelledField) → f ≡ get_or fs i f → i < length fs
    → way_among_entries n i (entries (fields (drop i fs))) ≡ led_by (to_entry i f.key) (way_to n (labelled f.value)) (way_among_entries n (i + 1) (entries (fields (drop (i + 1) fs))))
way-from-entry n fs i f is inside = rw (add-one, drop-cons fs i f, ← is, field-is f) refl

-- one part changed

pub item-changed-at : (change : edits.Labelled → edits.Labelled) (xs : List Labelled) (i : ℕ) (x y : Labelled) → x ≡ get_or xs i x → i < length xs → labelled y ≡ change (labelled x)
    → branches (items (take i xs ++ y ∷ drop (suc i) xs)) ≡ item_changed i change (branches (items xs))
item-changed-at change [] i x y is inside told = absurd (omega arith)
item-changed-at change (w ∷ ws) zero x y is inside told = rw (told, is) refl
item-changed-at change (w ∷ ws) (suc i) x y is inside told = ap (edits.branch (labelled w)) (item-changed-at change ws i x y is (omega arith) told)

pub item-not-changed : (change : edits.Labelled → edits.Labelled) (xs : List Labelled) (i : ℕ) → length xs ≤ i → branches (items xs) ≡ item_changed i change (branches (items xs))
item-not-changed change [] i out = refl
item-not-changed change (x ∷ xs) zero out = absurd (omega arith)
item-not-changed change (x ∷ xs) (suc i) out = ap (edits.branch (labelled x)) (item-not-changed change xs i (omega arith))

pub entry-changed-at : (change : edits.Labelled → edits.Labelled) (fs : List LabelledField) (i : ℕ) (f g : LabelledField) → f ≡ get_or fs i f → i < length fs → g.key ≡ f.key → labelled g.value ≡ change (labelled f.value)
    → entries (fields (take i fs ++ g ∷ drop (suc i) fs)) ≡ entry_changed i change (entries (fields fs))
entry-changed-at change [] i f g is inside key told = absurd (omega arith)
entry-changed-at change (w ∷ ws) zero f g is inside key told = rw (field-is g, field-is w, key, told, is) refl
entry-changed-at change (w ∷ ws) (suc i) f g is inside key told = ap (edits.entry (field w).0 (field w).1) (entry-changed-at change ws i f g is (omega arith) key told)

pub entry-not-changed : (change : edits.Labelled → edits.Labelled) (fs : List LabelledField) (i : ℕ) → length fs ≤ i → entries (fields fs) ≡ entry_changed i change (entries (fields fs))
entry-not-changed change [] i out = refl
entry-not-changed change (f ∷ fs) zero out = absurd (omega arith)
entry-not-changed change (f ∷ fs) (suc i) out = ap (edits.entry (field f).0 (field f).1) (entry-not-changed change fs i (omega arith))
