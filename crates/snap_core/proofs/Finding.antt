-- What a search by halves among ascending keys finds.
use Rattle.std.proofs.Common.{◌≡◌, ℕ, zero, suc, ◌<◌, List, [], ◌∷◌, length, get_or, true, false, Some, None, refl, sym, ◌∙◌, ap, subst, arith, add-one}
use Rattle.std.specs.declared.cmp.Ordering.{Ordering}
use Rattle.std.specs.declared.cmp.Ordering.TheVariants.{Less, Equal, Greater}
use Rattle.std.specs.Ordering.{nat_cmp, is_eq, is_lt, ordering_index, ordering_reverse}
use Rattle.std.specs.Cmp.Lexicographic.{slice_cmp}
use Rattle.std.specs.List.Sorted.{IsNonDecreasingBy}
use Rattle.std.specs.Str.{bytes_eq}
use Rattle.std.proofs.lemmas.Cmp.{nat_list_cmp_total, tied_back}
use Rattle.std.proofs.lemmas.List.Sorted.{searchable_from_sorted}
use Rattle.std.proofs.lemmas.Map.Text.{is_eq-slice_cmp}
use Rattle.snap_core.specs.Value.{Value, ComesBefore, AreKeyed, keys_of, value_at}
use Rattle.snap_core.specs.declared.snap.Field.{Field}
use Rattle.snap_core.specs.View.{entry, fields_view}
use Rattle.snap_core.proofs.Views.{entry-fields}

-- keys by their bytes
abbrev pub key_cmp : List ℕ → List ℕ → Ordering
key_cmp = slice_cmp nat_cmp

-- whether a key is the one that is looked for
pub bytes_eq-Equal : (key k : List ℕ) → key_cmp k key ≡ Equal → bytes_eq key k ≡ true
bytes_eq-Equal key k h = sym (is_eq-slice_cmp key k) ∙ ap is_eq (tied_back nat_list_cmp_total k key h)

pub bytes_eq-Less : (key k : List ℕ) → key_cmp k key ≡ Less → bytes_eq key k ≡ false
bytes_eq-Less key k h = sym (is_eq-slice_cmp key k) ∙ ap is_eq (nat_list_cmp_total.antisymm key k ∙ ap ordering_reverse h)

is_eq-other : (o : Ordering) → (o ≡ Equal → ⊥) → is_eq o ≡ false
is_eq-other Less h = refl
is_eq-other Equal h = absurd (h refl)
is_eq-other Greater h = refl

pub bytes_eq-unequal : (key k : List ℕ) → (key_cmp k key ≡ Equal → ⊥) → bytes_eq key k ≡ false
bytes_eq-unequal key k h = sym (is_eq-slice_cmp key k) ∙ is_eq-other (key_cmp key k) (λ e. h (tied_back nat_list_cmp_total key k e))

-- what comes before a record's first key comes before each of its keys
pub below_all : (k : List ℕ) (fs : List Field) (at : ℕ) (d : Field) → ComesBefore k (keys_of (fields_view fs)) → AreKeyed (fields_view fs) → at < length fs → key_cmp k (get_or fs at d).key ≡ Less
below_all k [] at d before keyed within = absurd (omega arith)
below_all k (f ∷ fs) zero d before keyed within = let P : List ℕ × Value → Type 0 = λ e. key_cmp k e.0 ≡ Less in subst P (entry-fields f) before
below_all k (f ∷ fs) (suc at) d before keyed within =
    let P : List ℕ × Value → Type 0 = λ e. key_cmp k e.0 ≡ Less in
    let Q : List ℕ × Value → Type 0 = λ e. ComesBefore e.0 (keys_of (fields_view fs)) in
    nat_list_cmp_total.trans k f.key (get_or fs at d).key (subst P (entry-fields f) before)
    (below_all f.key fs at d (subst Q (entry-fields f) keyed.0) keyed.1 (omega arith))

-- a key is less than those before it in no place
pub rising : (fs : List Field) → AreKeyed (fields_view fs) → (k : ℕ) (d : Field) → suc k < length fs → is_lt (key_cmp (get_or fs (suc k) d).key (get_or fs k d).key) ≡ false
rising [] keyed k d within = absurd (omega arith)
rising (f ∷ fs) keyed zero d within =
    let Q : List ℕ × Value → Type 0 = λ e. ComesBefore e.0 (keys_of (fields_view fs)) in
    let next : key_cmp f.key (get_or fs 0 d).key ≡ Less = below_all f.key fs 0 d (subst Q (entry-fields f) keyed.0) keyed.1 (omega arith) in
    ap is_lt (nat_list_cmp_total.antisymm (get_or fs 0 d).key f.key ∙ ap ordering_reverse next)
rising (f ∷ fs) keyed (suc k) d within = rising fs keyed.1 k d (omega arith)

pub searchable : (key : List ℕ) (fs : List Field) → AreKeyed (fields_view fs) → IsNonDecreasingBy (λ (f : Field). ordering_index (key_cmp f.key key)) fs
searchable key fs keyed = searchable_from_sorted nat_list_cmp_total (λ (f : Field). f.key) fs key
    (λ k d low high. rw add-one (rising fs keyed k d (omega arith)))

-- the value where the key is, and none where no field has it
pub value_at-present : (key : List ℕ) (fs : List Field) (at : ℕ) (d : Field) → AreKeyed (fields_view fs) → at < length fs
    → key_cmp (get_or fs at d).key key ≡ Equal → value_at key (fields_view fs) ≡ Some (entry (get_or fs at d)).1
value_at-present key [] at d keyed within same = absurd (omega arith)
value_at-present key (f ∷ fs) zero d keyed within same =
    let P : List ℕ × Value → Type 0 = λ e. bytes_eq key e.0 ≡ true in
    rw (subst P (sym (entry-fields f)) (bytes_eq-Equal key f.key same))
value_at-present key (f ∷ fs) (suc at) d keyed within same =
    let P : List ℕ × Value → Type 0 = λ e. bytes_eq key e.0 ≡ false in
    let Q : List ℕ × Value → Type 0 = λ e. ComesBefore e.0 (keys_of (fields_view fs)) in
    let here : key_cmp f.key (get_or fs at d).key ≡ Less = below_all f.key fs at d (subst Q (entry-fields f) keyed.0) keyed.1 (omega arith) in
    let less : key_cmp f.key key ≡ Less = nat_list_cmp_total.antisymm f.key key ∙ ap ordering_reverse (sym (nat_list_cmp_total.congr (get_or fs at d).key key f.key same) ∙ nat_list_cmp_total.antisymm (get_or fs at d).key f.key ∙ ap ordering_reverse here) in
    rw (subst P (sym (entry-fields f)) (bytes_eq-Less key f.key less)) (value_at-present key fs at d keyed.1 (omega arith) same)

pub value_at-absent : (key : List ℕ) (fs : List Field) → ((at : ℕ) (d : Field) → at < length fs → key_cmp (get_or fs at d).key key ≡ Equal → ⊥) → value_at key (fields_view fs) ≡ None
value_at-absent key [] none = refl
value_at-absent key (f ∷ fs) none =
    let P : List ℕ × Value → Type 0 = λ e. bytes_eq key e.0 ≡ false in
    rw (subst P (sym (entry-fields f)) (bytes_eq-unequal key f.key (none 0 f (omega arith)))) (value_at-absent key fs (λ at d within. none (suc at) d (omega arith)))
