-- Where the entry of a name stands.
use Rattle.std.proofs.Common.{◌≡◌, ℕ, zero, suc, ◌+◌, ◌<◌, List, [], ◌∷◌, length, get_or, Bool, true, false, Some, None, slice_get, if◌then◌else◌, refl, sym, ◌∙◌, ap, subst, arith}
use Rattle.std.specs.Prelude.{option_and_then}
use Rattle.std.specs.declared.cmp.Ordering.TheVariants.{Less}
use Rattle.std.specs.Str.{bytes_eq}
use Rattle.std.proofs.lemmas.Option.{slice_get-get_or}
use Rattle.std.proofs.lemmas.Slice.Eq.{bytes_eq-Decides}
use Rattle.snap_core.specs.Value.{Value, ComesBefore, AreKeyed, keys_of, no_members, member, value_at, Fields}
use Rattle.snap_core.specs.declared.snap.Field.{Field}
use Rattle.snap_core.specs.View.{fields_view}
use Rattle.snap_core.proofs.Views.{entry-fields}
use Rattle.snap_core.proofs.Finding.{key_cmp, below_all, bytes_eq-Less}
use Rattle.expr_form.specs.declared.models.Target.{Target}
use Rattle.expr_form.specs.Models.{index_from, target_of}

same_bytes : (xs ys : List ℕ) → xs ≡ ys → bytes_eq xs ys ≡ true
same_bytes xs ys e = (bytes_eq-Decides xs ys).1 e

-- the field with the key is the first one
pub index_from-at : (key : List ℕ) (n : ℕ) (fs : List Field) (at : ℕ) → AreKeyed (fields_view fs) → at < length fs
    → ((f : Field) → slice_get fs at ≡ Some f → f.key ≡ key) → index_from n (fields_view fs) key ≡ Some (n + at)
index_from-at key n [] at keyed within same = absurd (omega arith)
index_from-at key n (f ∷ fs) zero keyed within same =
    let P : List ℕ × Value → Type 0 = λ e. bytes_eq key e.0 ≡ true in
    let R : Bool → Type 0 = λ b. (if b then Some n else index_from (n + 1) (fields_view fs) key) ≡ Some (n + 0) in
    let last : n ≡ n + 0 = omega arith in
    subst R (sym (subst P (sym (entry-fields f)) (same_bytes key f.key (sym (same f refl))))) (ap (λ (k : ℕ). Some k) last)
index_from-at key n (f ∷ fs) (suc at) keyed within same =
    let P : List ℕ × Value → Type 0 = λ e. bytes_eq key e.0 ≡ false in
    let Q : List ℕ × Value → Type 0 = λ e. ComesBefore e.0 (keys_of (fields_view fs)) in
    let found : (get_or fs at f).key ≡ key = same (get_or fs at f) (slice_get-get_or fs at f (omega arith)) in
    let here : key_cmp f.key (get_or fs at f).key ≡ Less = below_all f.key fs at f (subst Q (entry-fields f) keyed.0) keyed.1 (omega arith) in
    let less : key_cmp f.key key ≡ Less = ap (key_cmp f.key) (sym found) ∙ here in
    let R : Bool → Type 0 = λ b. (if b then Some n else index_from (n + 1) (fields_view fs) key) ≡ Some (n + suc at) in
    let next : n + 1 + at ≡ n + suc at = omega arith in
    subst R (sym (subst P (sym (entry-fields f)) (bytes_eq-Less key f.key less)))
    (index_from-at key (n + 1) fs at keyed.1 (omega arith) same ∙ ap (λ (k : ℕ). Some k) next)

-- without the key there is none
pub index_from-none : (key : List ℕ) (n : ℕ) (ms : Fields) → value_at key ms ≡ None → index_from n ms key ≡ None
index_from-none key n no_members h = refl
index_from-none key n (member k v ms) h =
    elim (bytes_eq key k) as (λ b. (if b then Some v else value_at key ms) ≡ None → (if b then Some n else index_from (n + 1) ms key) ≡ None) [
      | true ↦ λ is. absurd cc
      | false ↦ λ is. index_from-none key (n + 1) ms is
    ] h

pub target_of-at : (key : List ℕ) (fs : List Field) (targets : List Target) (at : ℕ) (d : Target) → AreKeyed (fields_view fs) → at < length fs → length targets ≡ length fs
    → ((f : Field) → slice_get fs at ≡ Some f → f.key ≡ key) → Some (get_or targets at d) ≡ target_of (fields_view fs) targets key
target_of-at key fs targets at d keyed within each same =
    let first : 0 + at ≡ at = omega arith in
    sym (ap (λ o. option_and_then (λ i. slice_get targets i) o) (index_from-at key 0 fs at keyed within same)
    ∙ ap (λ i. slice_get targets i) first ∙ slice_get-get_or targets at d (omega arith))

pub target_of-none : (key : List ℕ) (fs : List Field) (targets : List Target) → value_at key (fields_view fs) ≡ None → None ≡ target_of (fields_view fs) targets key
target_of-none key fs targets none = sym (ap (λ o. option_and_then (λ i. slice_get targets i) o) (index_from-none key 0 (fields_view fs) none))
