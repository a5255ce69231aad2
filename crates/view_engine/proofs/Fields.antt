-- Fields whose keys ascend, with one more.
use Rattle.std.proofs.Common.{◌≡◌, ℕ, zero, suc, ◌<◌, List, [], ◌∷◌, length, slice_get, true, false, Some, None, refl, sym, ◌∙◌, ap, subst, arith}
use Rattle.std.specs.Prelude.{slice_set, insert}
use Rattle.snap_core.specs.Value.{Value, Fields, no_members, member, value_at, AreKeyed}
use Rattle.snap_core.specs.View.{view, fields_view}
use Rattle.snap_core.specs.Level.{set_field, insert_field}
use Rattle.snap_core.specs.declared.snap.Snap.{Snap}
use Rattle.snap_core.specs.declared.snap.Field.{Field}
use Rattle.snap_core.proofs.Levels.{same_key, key_before, other_before, ComesBefore-insert_field, keys_of-set_field}
use Rattle.snap_core.proofs.InPlace.{fields_view-set}
use Rattle.eval_core.specs.Making.{with_field}

keyed-insert : (key : List ℕ) (v : Value) (ms : Fields) → value_at key ms ≡ None → AreKeyed ms → AreKeyed (insert_field key v ms)
keyed-insert key v no_members absent all = (tt, tt)
keyed-insert key v (member k w ms) absent all = same_key key k
    (λ same e. let found : Some w ≡ None = rw e at absent in cc)
    (λ e. key_before key k
    (λ before lower. rw lower (before, all))
    (λ later. rw later (ComesBefore-insert_field k key v ms (other_before key k e later) all.0, keyed-insert key v ms (rw e at absent) all.1)))

keyed-set : (key : List ℕ) (v : Value) (ms : Fields) → AreKeyed ms → AreKeyed (set_field key v ms)
keyed-set key v ms keyed = rw keys_of-set_field keyed

standing : {X : Type 0} (xs : List X) (at : ℕ) → at < length xs → (x : X) × (slice_get xs at ≡ Some x)
standing [] at within = absurd (omega arith)
standing (x ∷ xs) zero within = (x, refl)
standing (x ∷ xs) (suc at) within = standing xs at (omega arith)

-- a field that was found is another one with its key
pub found-set : (key : List ℕ) (value : Snap) (fs : List Field) (at : ℕ) → AreKeyed (fields_view fs) → at < length fs
    → ((f : Field) → slice_get fs at ≡ Some f → value_at key (fields_view fs) ≡ Some (view f.value))
    → ((f : Field) → slice_get fs at ≡ Some f → f.key ≡ key)
    → fields_view (slice_set fs at (record { key = key; value = value })) ≡ with_field key (view value) (fields_view fs)
found-set key value fs at keyed within held has =
    let found = standing fs at within in
    let same : f_key found.0 ≡ key = has found.0 found.1 in
    let put : fields_view (slice_set fs at (record { key = f_key found.0; value = value })) ≡ set_field key (view value) (fields_view fs) =
    fields_view-set key value fs at found.0 keyed found.1 same in
    let there : value_at key (fields_view fs) ≡ Some (view found.0.value) = held found.0 found.1 in
    rw there (subst (λ k. fields_view (slice_set fs at (record { key = k; value = value })) ≡ set_field key (view value) (fields_view fs)) same put)
  where
    f_key : Field → List ℕ
    f_key f = f.key

-- one that was not found is put in
pub absent-put : (key : List ℕ) (value : Snap) (fs : List Field) (at : ℕ) → value_at key (fields_view fs) ≡ None
    → ((f : Field) → f.key ≡ key → fields_view (insert fs at f) ≡ insert_field key (view f.value) (fields_view fs))
    → fields_view (insert fs at (record { key = key; value = value })) ≡ with_field key (view value) (fields_view fs)
absent-put key value fs at absent put = rw absent (put (record { key = key; value = value }) refl)

-- the keys ascend also with it
pub keyed-with : (key : List ℕ) (v : Value) (ms : Fields) → AreKeyed ms → AreKeyed (with_field key v ms)
keyed-with key v ms keyed = elim (value_at key ms) as (λ o. value_at key ms ≡ o → AreKeyed (with_field key v ms)) [
  | Some w ↦ λ there. rw there (keyed-set key v ms keyed)
  | None ↦ λ absent. rw absent (keyed-insert key v ms absent keyed)
] refl

-- The same by what a search answers of a copy of the fields and of the key's text.

pub set-found : (key k : List ℕ) (value : Snap) (fs gs after : List Field) (at : ℕ) → gs ≡ fs → k ≡ key → AreKeyed (fields_view fs) → at < length gs
    → ((f : Field) → slice_get gs at ≡ Some f → value_at k (fields_view gs) ≡ Some (view f.value))
    → ((f : Field) → slice_get gs at ≡ Some f → f.key ≡ k)
    → after ≡ slice_set fs at (record { key = key; value = value })
    → fields_view after ≡ with_field key (view value) (fields_view fs)
set-found key k value fs gs after at same_fields same_key keyed within held has set =
    let Held : List Field → List ℕ → Type 0 = λ hs n. (f : Field) → slice_get hs at ≡ Some f → value_at n (fields_view hs) ≡ Some (view f.value) in
    let Has : List Field → List ℕ → Type 0 = λ hs n. (f : Field) → slice_get hs at ≡ Some f → f.key ≡ n in
    ap fields_view set
    ∙ found-set key value fs at keyed (subst (λ (hs : List Field). at < length hs) same_fields within)
    (subst (Held fs) same_key (subst (λ hs. Held hs k) same_fields held)) (subst (Has fs) same_key (subst (λ hs. Has hs k) same_fields has))

pub put-absent : (key k : List ℕ) (value : Snap) (fs gs after : List Field) (at : ℕ) → gs ≡ fs → k ≡ key
    → value_at k (fields_view gs) ≡ None
    → ((f : Field) → f.key ≡ k → fields_view (insert gs at f) ≡ insert_field k (view f.value) (fields_view gs))
    → after ≡ insert fs at (record { key = key; value = value })
    → fields_view after ≡ with_field key (view value) (fields_view fs)
put-absent key k value fs gs after at same_fields same_key absent place put =
    let Absent : List Field → List ℕ → Type 0 = λ hs n. value_at n (fields_view hs) ≡ None in
    let Place : List Field → List ℕ → Type 0 = λ hs n. (f : Field) → f.key ≡ n → fields_view (insert hs at f) ≡ insert_field n (view f.value) (fields_view hs) in
    ap fields_view put
    ∙ absent-put key value fs at (subst (Absent fs) same_key (subst (λ hs. Absent hs k) same_fields absent)) (subst (Place fs) same_key (subst (λ hs. Place hs k) same_fields place))
