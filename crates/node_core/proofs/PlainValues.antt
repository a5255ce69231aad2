-- Plain items and fields, as lists of plain values; and equal values.
use Rattle.std.proofs.Common.{◌≡◌, ℕ, suc, List, [], ◌∷◌, ◌+◌, ◌<◌, length, get_or, drop, drop-cons, add-one, Bool, true, false, ◌&&◌, IsTrue, ◌↔◌, refl, sym, ◌∙◌, ap}
use Rattle.std.specs.Str.{bytes_eq}
use Rattle.snap_core.specs.Value.{part, member}
use Rattle.snap_core.specs.View.{view, entry, parts_of, members_of, items_view, fields_view}
use Rattle.snap_core.specs.Unview.{snap_of}
use Rattle.snap_core.specs.declared.snap.Snap.{Snap}
use Rattle.snap_core.specs.declared.snap.Field.{Field}
use Rattle.snap_core.proofs.Views.{snap_of-view, entry-fields}
use Rattle.edit_core.specs.Comparing.{is_equal, are_equal, have_equal}
use Rattle.edit_core.proofs.Equal.{equal-is}
use Rattle.edit_core.proofs.Unchanged.{equal-itself}
use Rattle.node_core.specs.declared.labelled.Labelled.{Labelled}
use Rattle.node_core.specs.declared.labelled.LabelledField.{LabelledField}
use Rattle.edit_core.specs.Labelled.{bare}
use Rattle.node_core.proofs.Views.{field-is}
use Rattle.node_core.specs.View.{field, plain, plain_items, plain_fields, plain_values, plain_entries}

pub parts_of_plain : (xs : List Labelled) → parts_of (plain_values xs) ≡ plain_items xs
parts_of_plain [] = refl
parts_of_plain (x ∷ xs) = ap (part (plain x)) (parts_of_plain xs)

pub members_of_plain : (fs : List LabelledField) → members_of (plain_entries fs) ≡ plain_fields fs
members_of_plain [] = refl
members_of_plain (f ∷ fs) = ap (member (field f).0 (bare (field f).1)) (members_of_plain fs)

view-injective : (a b : Snap) → view a ≡ view b → a ≡ b
view-injective a b e = sym (snap_of-view a) ∙ ap snap_of e ∙ snap_of-view b

-- what decides whether two values are the same tells whether they are equal
pub told_equal : (result : Bool) (a b : Snap) → IsTrue result ↔ (a ≡ b) → result ≡ is_equal (view a) (view b)
told_equal result a b decides = go result (is_equal (view a) (view b)) decides refl where
  go : (r b' : Bool) → IsTrue r ↔ (a ≡ b) → is_equal (view a) (view b) ≡ b' → r ≡ b'
  go true true d e = refl
  go false false d e = refl
  go true false d e = let same : is_equal (view a) (view b) ≡ true = ap (λ x. is_equal (view a) (view x)) (sym (d.0 refl)) ∙ equal-itself (view a) in cc
  go false true d e = let same : false ≡ true = d.1 (view-injective a b (equal-is (view a) (view b) e)) in cc

-- lists of different lengths aren't equal

and-false : (b : Bool) → (b && false) ≡ false
and-false true = refl
and-false false = refl

pub items_of_other_length : (xs : List Labelled) (vs : List Snap) → ¬ (length xs ≡ length vs) → false ≡ are_equal (plain_items xs) (items_view vs)
items_of_other_length [] [] differ = absurd (differ refl)
items_of_other_length [] (v ∷ vs) differ = refl
items_of_other_length (x ∷ xs) [] differ = refl
items_of_other_length (x ∷ xs) (v ∷ vs) differ =
    sym (ap (λ b. is_equal (plain x) (view v) && b) (sym (items_of_other_length xs vs (λ e. differ (ap suc e)))) ∙ and-false (is_equal (plain x) (view v)))

pub fields_of_other_length : (xs : List LabelledField) (vs : List Field) → ¬ (length xs ≡ length vs) → false ≡ have_equal (plain_fields xs) (fields_view vs)
fields_of_other_length [] [] differ = absurd (differ refl)
fields_of_other_length [] (v ∷ vs) differ = refl
fields_of_other_length (x ∷ xs) [] differ = refl
fields_of_other_length (x ∷ xs) (v ∷ vs) differ =
    let first : Bool = bytes_eq (field x).0 (entry v).0 && is_equal (bare (field x).1) (entry v).1 in
    sym (ap (λ b. first && b) (sym (fields_of_other_length xs vs (λ e. differ (ap suc e)))) ∙ and-false first)

-- whether lists are equal from an index on, by the items there

pub items_from : (xs : List Labelled) (vs : List Snap) (i : ℕ) (x : Labelled) (v : Snap) → x ≡ get_or xs i x → v ≡ get_or vs i v → i < length xs → i < length vs
    → are_equal (plain_items (drop i xs)) (items_view (drop i vs)) ≡ (is_equal (plain x) (view v) && are_equal (plain_items (drop (i + 1) xs)) (items_view (drop (i + 1) vs)))
items_from xs vs i x v ex ev hx hv = rw (add-one, drop-cons xs i x, drop-cons vs i v, ← ex, ← ev) refl

pub fields_from : (xs : List LabelledField) (vs : List Field) (i : ℕ) (x : LabelledField) (v : Field) → x ≡ get_or xs i x → v ≡ get_or vs i v → i < length xs → i < length vs
    → have_equal (plain_fields (drop i xs)) (fields_view (drop i vs))
    ≡ ((bytes_eq x.key v.key && is_equal (plain x.value) (view v.value)) && have_equal (plain_fields (drop (i + 1) xs)) (fields_view (drop (i + 1) vs)))
fields_from xs vs i x v ex ev hx hv = rw (add-one, drop-cons xs i x, drop-cons vs i v, ← ex, ← ev, field-is x, entry-fields v) refl

-- what a search that goes on only where a test holds tells at the end
pub ends_false : (first rest all x : Bool) → first ≡ false → x ≡ (first && rest) → x ≡ all → false ≡ all
ends_false first rest all x fails step so_far = cc

pub goes_on : (first rest all : Bool) (x : Bool) → first ≡ true → x ≡ (first && rest) → x ≡ all → rest ≡ all
goes_on first rest all x holds step so_far = cc
