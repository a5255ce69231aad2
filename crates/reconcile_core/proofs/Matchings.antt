-- The steps of matching.
use Rattle.std.proofs.Common.{◌≡◌, ℕ, zero, suc, ◌+◌, ◌<◌, ◌≤◌, List, [], ◌∷◌, ◌++◌, length, get_or, take, drop, drop-cons, add-one, Bool, true, false, ◌&&◌, Option, Some, None, map, replicate, refl, sym, ◌∙◌, ap, arith}
use Rattle.std.specs.Prelude.{slice_get, slice_set}
use Rattle.std.proofs.lemmas.List.{map-append}
use Rattle.snap_core.specs.Value.{Value}
use Rattle.snap_core.specs.View.{view}
use Rattle.snap_core.specs.declared.snap.Snap.{Snap}
use Rattle.edit_core.specs.Labelled.{Labelled}
use Rattle.edit_core.specs.Matching.{Slot, is_open, taken, all_taken, open_slot, pairwise, matched}
use Rattle.edit_core.specs.Template.{first_in, rest_of}
use Rattle.std.specs.Option.{option_map}
use Rattle.std.proofs.lemmas.Option.{slice_get-map, slice_get-get_or}
use Rattle.node_core.specs.declared.labelled.Labelled.{Labelled as Rust}
use Rattle.node_core.specs.View.{labelled, items}
use Rattle.reconcile_core.specs.Slots.{slot_value, slot_values, slots_of}

and-false : (b : Bool) → (b && false) ≡ false
and-false true = refl
and-false false = refl

pub pairwise-not : {X Y : Type 0} (same : X → Value → Bool) (seen : Y → X) (xs : List Y) (vs : List Snap) → ¬ (length xs ≡ length vs) → false ≡ pairwise same (map seen xs) (map view vs)
pairwise-not same seen [] [] differ = absurd (differ refl)
pairwise-not same seen [] (v ∷ vs) differ = refl
pairwise-not same seen (x ∷ xs) [] differ = refl
pairwise-not same seen (x ∷ xs) (v ∷ vs) differ =
    sym (ap (λ b. same (seen x) (view v) && b) (sym (pairwise-not same seen xs vs (λ e. differ (ap suc e)))) ∙ and-false (same (seen x) (view v)))

take-one : (xs : List Labelled) (i : ℕ) → i < length xs → map Some (take (suc i) xs) ≡ map Some (take i xs) ++ slice_get xs i ∷ []
take-one [] i inside = absurd (omega arith)
take-one (x ∷ xs) zero inside = refl
take-one (x ∷ xs) (suc i) inside = ap (λ ys. Some x ∷ ys) (take-one xs i (omega arith))

pub one-itself : (xs : List Labelled) (slots : List (Option ℕ)) (i : ℕ) → slot_values xs slots ≡ map Some (take i xs) → i < length xs → slot_values xs (slots ++ Some i ∷ []) ≡ map Some (take (i + 1) xs)
one-itself xs slots i so inside = rw add-one (map-append (slot_value xs) slots (Some i ∷ []) ∙ ap (λ ys. ys ++ slice_get xs i ∷ []) so ∙ sym (take-one xs i inside))

-- no slot is taken yet

pub none-taken : (olds : List Labelled) (vs : List Value) (n : ℕ) → n ≡ length vs → slots_of vs (slot_values olds (replicate n None)) ≡ map open_slot vs
none-taken olds [] zero e = refl
none-taken olds [] (suc n) e = cc
none-taken olds (v ∷ vs) zero e = cc
none-taken olds (v ∷ vs) (suc n) e = ap (λ slots. open_slot v ∷ slots) (none-taken olds vs n (let h : suc n ≡ suc (length vs) = e in omega arith))

pub old-of : (vs : List Value) (slots : List (Option Labelled)) → length slots ≡ length vs → map (λ slot. slot.old) (slots_of vs slots) ≡ slots
old-of [] [] e = refl
old-of [] (s ∷ ss) e = cc
old-of (v ∷ vs) [] e = cc
old-of (v ∷ vs) (s ∷ ss) e = ap (λ slots. s ∷ slots) (old-of vs ss (let h : suc (length ss) ≡ suc (length vs) = e in omega arith))

-- a slot, and what an old item takes

module _ (same : Labelled → Value → Bool) (olds : List Labelled) where
  pub slot-passed : (old : Labelled) (news : List Snap) (slots : List (Option ℕ)) (k : ℕ) (v : Snap) (o : Option Labelled) → v ≡ get_or news k v → o ≡ first_in (drop k (slot_values olds slots)) → k < length news → k < length slots
      → (is_open o && same old (view v)) ≡ false
      → slots_of (map view (take k news)) (slot_values olds (take k slots)) ++ taken same old (slots_of (map view (drop k news)) (slot_values olds (drop k slots)))
      ≡ slots_of (map view (take (suc k) news)) (slot_values olds (take (suc k) slots)) ++ taken same old (slots_of (map view (drop (suc k) news)) (slot_values olds (drop (suc k) slots)))
  slot-passed old [] slots k v o ev es hv hs fails = absurd (omega arith)
  slot-passed old (w ∷ ws) [] k v o ev es hv hs fails = absurd (omega arith)
  slot-passed old (w ∷ ws) (r ∷ rs) zero v o ev es hv hs fails =
      let here : (is_open (slot_value olds r) && same old (view w)) ≡ false = (ap (λ x. is_open x && same old (view w)) (sym es)) ∙ ap (λ x. is_open o && same old (view x)) (sym ev) ∙ fails in
      rw here refl
  slot-passed old (w ∷ ws) (r ∷ rs) (suc k) v o ev es hv hs fails =
      ap (λ slots. record { new = view w; old = slot_value olds r } ∷ slots) (slot-passed old ws rs k v o ev es (omega arith) (omega arith) fails)

  pub slot-taken : (old : Labelled) (i : ℕ) (news : List Snap) (slots : List (Option ℕ)) (k : ℕ) (v : Snap) (o : Option Labelled) → slice_get olds i ≡ Some old → v ≡ get_or news k v → o ≡ first_in (drop k (slot_values olds slots)) → k < length news → k < length slots
      → (is_open o && same old (view v)) ≡ true
      → slots_of (map view news) (slot_values olds (slice_set slots k (Some i)))
      ≡ slots_of (map view (take k news)) (slot_values olds (take k slots)) ++ taken same old (slots_of (map view (drop k news)) (slot_values olds (drop k slots)))
  slot-taken old i [] slots k v o eo ev es hv hs holds = absurd (omega arith)
  slot-taken old i (w ∷ ws) [] k v o eo ev es hv hs holds = absurd (omega arith)
  slot-taken old i (w ∷ ws) (r ∷ rs) zero v o eo ev es hv hs holds =
      let here : (is_open (slot_value olds r) && same old (view w)) ≡ true = (ap (λ x. is_open x && same old (view w)) (sym es)) ∙ ap (λ x. is_open o && same old (view x)) (sym ev) ∙ holds in
      rw (here, eo) refl
  slot-taken old i (w ∷ ws) (r ∷ rs) (suc k) v o eo ev es hv hs holds =
      ap (λ slots. record { new = view w; old = slot_value olds r } ∷ slots) (slot-taken old i ws rs k v o eo ev es (omega arith) (omega arith) holds)

  pub all-passed : (old : Labelled) (news : List Snap) (slots : List (Option ℕ)) (k : ℕ) → length news ≤ k → length slots ≡ length news
      → slots_of (map view (take k news)) (slot_values olds (take k slots)) ++ taken same old (slots_of (map view (drop k news)) (slot_values olds (drop k slots))) ≡ slots_of (map view news) (slot_values olds slots)
  all-passed old [] [] zero out e = refl
  all-passed old [] [] (suc k) out e = refl
  all-passed old [] (r ∷ rs) k out e = cc
  all-passed old (w ∷ ws) [] k out e = cc
  all-passed old (w ∷ ws) (r ∷ rs) zero out e = absurd (omega arith)
  all-passed old (w ∷ ws) (r ∷ rs) (suc k) out e = ap (λ slots. record { new = view w; old = slot_value olds r } ∷ slots) (all-passed old ws rs k (omega arith) (let h : suc (length rs) ≡ suc (length ws) = e in omega arith))

-- the old item in a slot

pub slot-there : (olds : List Labelled) (slots : List (Option ℕ)) (i : ℕ) (s : Option ℕ) → slice_get slots i ≡ Some s → slot_value olds s ≡ first_in (drop i (slot_values olds slots))
slot-there olds [] i s e = cc
slot-there olds (r ∷ rs) zero s e = let h : r ≡ s = cc in ap (slot_value olds) (sym h)
slot-there olds (r ∷ rs) (suc i) s e = slot-there olds rs i s e

pub slot-none : (olds : List Labelled) (slots : List (Option ℕ)) (i : ℕ) → slice_get slots i ≡ None → None ≡ first_in (drop i (slot_values olds slots))
slot-none olds [] zero e = refl
slot-none olds [] (suc i) e = refl
slot-none olds (r ∷ rs) zero e = cc
slot-none olds (r ∷ rs) (suc i) e = slot-none olds rs i e

pub rest-drop : (slots : List (Option Labelled)) (i : ℕ) → rest_of (drop i slots) ≡ drop (suc i) slots
rest-drop [] zero = refl
rest-drop [] (suc i) = refl
rest-drop (s ∷ ss) zero = refl
rest-drop (s ∷ ss) (suc i) = rest-drop ss i

pub one-stands : (xs : List Rust) (i : ℕ) (x : Rust) → x ≡ get_or xs i x → i < length xs → slice_get (items xs) i ≡ Some (labelled x)
one-stands xs i x is inside = slice_get-map labelled xs i ∙ ap (option_map labelled) (slice_get-get_or xs i x inside ∙ ap Some (sym is))

pub in-turn : (same : Labelled → Value → Bool) (xs : List Rust) (slots : List Slot) (i : ℕ) (x : Rust) → x ≡ get_or xs i x → i < length xs
    → all_taken same (items (drop i xs)) slots ≡ all_taken same (items (drop (i + 1) xs)) (taken same (labelled x) slots)
in-turn same xs slots i x is inside = rw (add-one, drop-cons xs i x, ← is) refl

pub length-replicate : {A : Type 0} (n : ℕ) (x : A) → length (replicate n x) ≡ n
length-replicate zero x = refl
length-replicate (suc n) x = ap suc (length-replicate n x)

pub by-first : (same : Labelled → Value → Bool) (olds : List Labelled) (vs : List Value) (slots : List (Option Labelled)) → length slots ≡ length vs → false ≡ pairwise same olds vs
    → slots_of vs slots ≡ all_taken same olds (map open_slot vs) → slots ≡ matched same olds vs
by-first same olds vs slots count apart all = rw (← apart) (sym (old-of vs slots count) ∙ ap (map (λ (slot : Slot). slot.old)) all)

pub record ItemAt (xs : List Rust) (i : ℕ) : Type 0 where
  pub item : Rust
  pub is : item ≡ get_or xs i item

pub item-at : (xs : List Rust) (i : ℕ) → i < length xs → ItemAt xs i
item-at [] i h = absurd (omega arith)
item-at (x ∷ xs) zero h = record { item = x; is = refl }
item-at (x ∷ xs) (suc i) h = let there = item-at xs i (omega arith) in record { item = there.item; is = there.is }
