-- What is left of some fields or items begins with the next one.
use Rattle.std.proofs.Common.{◌≡◌, ℕ, ◌+◌, ◌<◌, ◌≤◌, List, ◌∷◌, length, get_or, drop, ◌∙◌, ap, drop-cons, add-one}
use Rattle.std.proofs.lemmas.List.{drop_all}
use Rattle.snap_core.specs.Value.{Value, no_parts, part, no_members, member}
use Rattle.snap_core.specs.declared.snap.Snap.{Snap}
use Rattle.snap_core.specs.declared.snap.Field.{Field}
use Rattle.snap_core.specs.View.{view, items_view, fields_view}
use Rattle.snap_core.proofs.Views.{entry-fields}

pub fields-ahead : (fs : List Field) (i : ℕ) (f : Field) → i < length fs → f ≡ get_or fs i f → fields_view (drop i fs) ≡ member f.key (view f.value) (fields_view (drop (i + 1) fs))
fields-ahead fs i f within here =
    let left : drop i fs ≡ f ∷ drop (i + 1) fs = rw (add-one, drop-cons fs i f, ← here) in
    ap fields_view left ∙ ap (λ (e : List ℕ × Value). member e.0 e.1 (fields_view (drop (i + 1) fs))) (entry-fields f)

pub fields-end : (fs : List Field) (i : ℕ) → length fs ≤ i → fields_view (drop i fs) ≡ no_members
fields-end fs i past = ap fields_view (drop_all i fs past)

pub items-ahead : (vs : List Snap) (i : ℕ) (v : Snap) → i < length vs → v ≡ get_or vs i v → items_view (drop i vs) ≡ part (view v) (items_view (drop (i + 1) vs))
items-ahead vs i v within here =
    let left : drop i vs ≡ v ∷ drop (i + 1) vs = rw (add-one, drop-cons vs i v, ← here) in
    ap items_view left

pub items-end : (vs : List Snap) (i : ℕ) → length vs ≤ i → items_view (drop i vs) ≡ no_parts
items-end vs i past = ap items_view (drop_all i vs past)

pub list-ahead : {A : Type 0} (xs : List A) (i : ℕ) (x : A) → i < length xs → x ≡ get_or xs i x → drop i xs ≡ x ∷ drop (i + 1) xs
list-ahead xs i x within here = rw (add-one, drop-cons xs i x, ← here)
