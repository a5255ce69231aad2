-- Names that stand for types.
use Rattle.std.proofs.Common.{◌≡◌, ℕ, zero, suc, ◌+◌, ◌-◌, ◌<◌, ◌≤◌, List, [], ◌∷◌, slice_get, slice_set, Option, Some, IfSome, inl, inr, refl, sym, ap, subst, arith}
use Rattle.std.specs.Prelude.{◌⊎◌}
use Rattle.snap_core.specs.declared.number.TypeNo.{TypeNo}
use Rattle.type_table.specs.Table.{Table, shape_at}
use Rattle.type_table.specs.Names.{named_within, named_step}
use Rattle.type_table.specs.NameEnds.{AreEndsWithin}

-- what stands in a list after a write is what was written, or stood there before
pub slice_get-set_cases : {X : Type 0} (xs : List X) (i : ℕ) (y : X) (k : ℕ) (x : X)
    → slice_get (slice_set xs i y) k ≡ Some x → (k ≡ i) ⊎ (slice_get xs k ≡ Some x)
slice_get-set_cases [] i y k x h = inr h
slice_get-set_cases (w ∷ xs) zero y zero x h = inl refl
slice_get-set_cases (w ∷ xs) zero y (suc k) x h = inr h
slice_get-set_cases (w ∷ xs) (suc i) y zero x h = inr h
slice_get-set_cases (w ∷ xs) (suc i) y (suc k) x h = elim (slice_get-set_cases xs i y k x h) [ inl e ↦ inl (ap (λ n. suc n) e) | inr e ↦ inr e ]

-- one name further, while some are left
pub named_within-step : (table : Table) (i : ℕ) (n : ℕ) (t : ℕ) → i < n
    → named_within table (n - i) t ≡ named_step (named_within table (n - (i + 1))) t (shape_at table t)
named_within-step table i n t below = let e : n - i ≡ suc (n - (i + 1)) = omega arith in rw e

-- what stands where it was written is what was written
pub slice_get-set_here : {X : Type 0} (xs : List X) (i : ℕ) (y x : X) → slice_get (slice_set xs i y) i ≡ Some x → y ≡ x
slice_get-set_here [] i y x h = cc
slice_get-set_here (w ∷ xs) zero y x h = cc
slice_get-set_here (w ∷ xs) (suc i) y x h = slice_get-set_here xs i y x h

-- one end more, that of a type through one name more
pub AreEndsWithin-set : (table : Table) (most : ℕ) (ends : List (Option TypeNo)) (t : ℕ) (end : Option TypeNo) → AreEndsWithin table most ends
    → ((m : ℕ) → most ≤ m → IfSome end (λ u. named_within table (m + 1) t ≡ u.0)) → AreEndsWithin table (most + 1) (slice_set ends t end)
AreEndsWithin-set table most ends t end known new zero enough k u h = absurd (omega arith)
AreEndsWithin-set table most ends t end known new (suc m) enough k u h =
    elim (slice_get-set_cases ends t end k (Some u) h) [
      | inl e ↦
          let Here : ℕ → Type 0 = λ n. slice_get (slice_set ends t end) n ≡ Some (Some u) in
          let same : end ≡ Some u = slice_get-set_here ends t end (Some u) (subst Here e h) in
          let P : Option TypeNo → Type 0 = λ o. IfSome o (λ w. named_within table (m + 1) t ≡ w.0) in
          let Q : ℕ → Type 0 = λ n. named_within table n t ≡ u.0 in
          let R : ℕ → Type 0 = λ n. named_within table (suc m) n ≡ u.0 in
          let here : named_within table (m + 1) t ≡ u.0 = subst P same (new m (omega arith)) in
          let next : m + 1 ≡ suc m = omega arith in
          subst R (sym e) (subst Q next here)
      | inr old ↦ known (suc m) (omega arith) k u old
    ]
