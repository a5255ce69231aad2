-- What a search by halves answers: where the field with a key stands, or where one with that key would go.
use Rattle.std.proofs.Common.{◌≡◌, ℕ, zero, suc, ◌<◌, ◌≤◌, List, [], ◌∷◌, length, get_or, true, false, Some, None, IfOk, IfErr, MatchResult, slice_get, Result, Ok, Err, sym, ◌∙◌, ap, subst, inl, inr, arith}
use Rattle.std.specs.Prelude.{insert}
use Rattle.std.specs.declared.cmp.Ordering.TheVariants.{Less, Equal, Greater}
use Rattle.std.specs.Ordering.{is_lt, ordering_reverse}
use Rattle.std.specs.List.Sorted.{IsBinarySearchResult, IsSearchInRange}
use Rattle.std.proofs.lemmas.Bool.{cases_lt}
use Rattle.std.proofs.lemmas.Cmp.{nat_list_cmp_total}
use Rattle.std.proofs.lemmas.Slice.Eq.{bytes_eq-Decides}
use Rattle.std.proofs.lemmas.Option.{get_or_from_slice_get}
use Rattle.snap_core.specs.Value.{Value, member, AreKeyed, value_at}
use Rattle.snap_core.specs.Level.{insert_field}
use Rattle.snap_core.specs.declared.snap.Field.{Field}
use Rattle.snap_core.specs.View.{view, entry, fields_view}
use Rattle.snap_core.proofs.Views.{entry-fields}
use Rattle.snap_core.proofs.Finding.{key_cmp, searchable, value_at-present, value_at-absent, bytes_eq-Equal}

-- the value of the field at the index that is found stands under the key; where none is found, no field has the key
pub value_at-searched : (key : List ℕ) (fs : List Field) (r : Result ℕ ℕ) → AreKeyed (fields_view fs) → IsSearchInRange r (length fs)
    → IsBinarySearchResult (λ (f : Field). key_cmp f.key key) fs r
    → MatchResult r (λ at. (field : Field) → slice_get fs at ≡ Some field → value_at key (fields_view fs) ≡ Some (view field.value)) (λ at. value_at key (fields_view fs) ≡ None)
value_at-searched key fs (Ok at) keyed within found = λ field here.
    let P : Field → Type 0 = λ f. value_at key (fields_view fs) ≡ Some (view f.value) in
    let Q : List ℕ × Value → Type 0 = λ e. value_at key (fields_view fs) ≡ Some e.1 in
    subst P (get_or_from_slice_get fs at field field here) (subst Q (entry-fields (get_or fs at field)) (value_at-present key fs at field keyed within (found field)))
value_at-searched key fs (Err at) keyed within parted =
    let halves = parted (searchable key fs keyed) in
    value_at-absent key fs (λ i d inside equal. elim (cases_lt i at) [
      | inl low ↦ let less : key_cmp (get_or fs i d).key key ≡ Less = halves.0 i d (omega arith) low in cc
      | inr high ↦ let greater : key_cmp (get_or fs i d).key key ≡ Greater = halves.1 i d high inside in cc
    ])

-- the field at the index that a search answers has the key
pub key-searched : (key : List ℕ) (fs : List Field) (r : Result ℕ ℕ) → IsBinarySearchResult (λ (f : Field). key_cmp f.key key) fs r
    → IfOk r (λ at. (field : Field) → slice_get fs at ≡ Some field → field.key ≡ key)
key-searched key fs (Ok at) found = λ field here.
    let P : Field → Type 0 = λ f. key_cmp f.key key ≡ Equal in
    let same : key_cmp field.key key ≡ Equal = subst P (get_or_from_slice_get fs at field field here) (found field) in
    sym ((bytes_eq-Decides key field.key).0 (bytes_eq-Equal key field.key same))
key-searched key fs (Err at) found = tt

-- a field with the key, behind those whose keys come before it, and before those whose keys come after it
pub fields_view-insert : (key : List ℕ) (fs : List Field) (at : ℕ)
    → ((k : ℕ) (d : Field) → k < at → key_cmp (get_or fs k d).key key ≡ Less)
    → ((k : ℕ) (d : Field) → at ≤ k → k < length fs → key_cmp (get_or fs k d).key key ≡ Greater)
    → at ≤ length fs → (field : Field) → field.key ≡ key
    → fields_view (insert fs at field) ≡ insert_field key (view field.value) (fields_view fs)
fields_view-insert key [] zero low high within field has =
    ap (λ e. member e.0 e.1 (fields_view [])) (entry-fields field) ∙ ap (λ k. member k (view field.value) (fields_view [])) has
fields_view-insert key [] (suc at) low high within field has = absurd (omega arith)
fields_view-insert key (g ∷ gs) zero low high within field has =
    let later : key_cmp g.key key ≡ Greater = high 0 g (omega arith) (omega arith) in
    let first : is_lt (key_cmp key g.key) ≡ true = ap is_lt (nat_list_cmp_total.antisymm key g.key ∙ ap ordering_reverse later) in
    let P : List ℕ × Value → Type 0 = λ e. is_lt (key_cmp key e.0) ≡ true in
    let lower : is_lt (key_cmp key (entry g).0) ≡ true = subst P (sym (entry-fields g)) first in
    rw lower (ap (λ e. member e.0 e.1 (fields_view (g ∷ gs))) (entry-fields field) ∙ ap (λ k. member k (view field.value) (fields_view (g ∷ gs))) has)
fields_view-insert key (g ∷ gs) (suc at) low high within field has =
    let before : key_cmp g.key key ≡ Less = low 0 g (omega arith) in
    let later : is_lt (key_cmp key g.key) ≡ false = ap is_lt (nat_list_cmp_total.antisymm key g.key ∙ ap ordering_reverse before) in
    let P : List ℕ × Value → Type 0 = λ e. is_lt (key_cmp key e.0) ≡ false in
    let not_lower : is_lt (key_cmp key (entry g).0) ≡ false = subst P (sym (entry-fields g)) later in
    rw not_lower (ap (member (entry g).0 (entry g).1)
    (fields_view-insert key gs at (λ k d below. low (suc k) d (omega arith)) (λ k d above inside. high (suc k) d (omega arith) (omega arith)) (omega arith) field has))

-- a field with the key goes where the search ended
pub place-searched : (key : List ℕ) (fs : List Field) (r : Result ℕ ℕ) → AreKeyed (fields_view fs) → IsSearchInRange r (length fs)
    → IsBinarySearchResult (λ (f : Field). key_cmp f.key key) fs r
    → IfErr r (λ at. (field : Field) → field.key ≡ key → fields_view (insert fs at field) ≡ insert_field key (view field.value) (fields_view fs))
place-searched key fs (Ok at) keyed within found = tt
place-searched key fs (Err at) keyed within parted =
    let halves = parted (searchable key fs keyed) in
    fields_view-insert key fs at (λ k d below. halves.0 k d (omega arith) below) halves.1 within
