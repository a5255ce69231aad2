-- Defaults that are known so far stay what is made as more are found.
use Rattle.std.proofs.Common.{◌≡◌, ℕ, zero, suc, ◌<◌, List, [], ◌∷◌, length, get_or, slice_get, slice_set, true, cond, Option, Some, None, Ok, refl, sym, ap, ◌∙◌, subst, inl, inr, arith, length-set}
use Rattle.std.specs.Prelude.{◌⊎◌, is_none}
use Rattle.std.proofs.lemmas.List.Sums.{sum_by-set}
use Rattle.std.proofs.lemmas.Option.{slice_get-get_or, slice_get_within}
use Rattle.snap_core.specs.Value.{Value}
use Rattle.snap_core.specs.View.{view}
use Rattle.snap_core.specs.declared.snap.Snap.{Snap}
use Rattle.type_table.specs.declared.shape.Shape.TheVariants.{Optional}
use Rattle.type_table.specs.Table.{Table, shape_at, default_at}
use Rattle.type_core.specs.Making.{maker_of}
use Rattle.type_core.specs.Makes.{Makes, optional_absent}
use Rattle.type_draft.specs.Defaulting.{AreSoFar, IsNew, unknown_count}
use Rattle.type_core.proofs.Laws.{maker_of-sound, maker_of-more}

-- a default that is known is the one that was set, or was known before
default_at-set : (defaults : List (Option Snap)) (t : ℕ) (s : Snap) (k : ℕ) (v : Value)
    → default_at (slice_set defaults t (Some s)) k ≡ Some v → ((k ≡ t) × (v ≡ view s)) ⊎ (default_at defaults k ≡ Some v)
default_at-set [] t s k v h = inr h
default_at-set (x ∷ xs) zero s zero v h = inl (refl, cc)
default_at-set (x ∷ xs) zero s (suc k) v h = inr h
default_at-set (x ∷ xs) (suc t) s zero v h = inr h
default_at-set (x ∷ xs) (suc t) s (suc k) v h = elim (default_at-set xs t s k v h) [ inl e ↦ inl (ap (λ n. suc n) e.0, e.1) | inr e ↦ inr e ]

-- what is known stays, where one is set that wasn't
default_at-stays : (defaults : List (Option Snap)) (t : ℕ) (s : Snap) → default_at defaults t ≡ None
    → (k : ℕ) (v : Value) → default_at defaults k ≡ Some v → default_at (slice_set defaults t (Some s)) k ≡ Some v
default_at-stays [] t s none k v h = h
default_at-stays (x ∷ xs) zero s none zero v h = cc
default_at-stays (x ∷ xs) zero s none (suc k) v h = h
default_at-stays (x ∷ xs) (suc t) s none zero v h = h
default_at-stays (x ∷ xs) (suc t) s none (suc k) v h = default_at-stays xs t s none k v h

-- one default more is known
pub AreSoFar-more : (table : Table) (defaults : List (Option Snap)) (t : ℕ) (s : Snap)
    → AreSoFar table defaults → IsNew table defaults t (view s) → AreSoFar table (slice_set defaults t (Some s))
AreSoFar-more table defaults t s far new =
    let more : List (Option Snap) = slice_set defaults t (Some s) in
    let stays = default_at-stays defaults t s new.unknown in
    let more_made : (v : Value) (u : ℕ) (w : Value) → maker_of table defaults v u ≡ Ok w → maker_of table more v u ≡ Ok w = maker_of-more table defaults more stays in
    record {
      made = λ k v h. elim (default_at-set defaults t s k v h) [
        | inl e ↦
            let P : ℕ → Type 0 = λ n. Makes table n None v in
            let Q : Value → Type 0 = λ w. Makes table t None w in
            subst P (sym e.0) (subst Q (sym e.1)
            (optional_absent t new.of new.given (view s) new.shape (maker_of-sound table defaults far.made (view new.given) new.of.0 (view s) new.made) new.light))
        | inr e ↦ far.made k v e
      ];
      kept = λ k v h u d shape. elim (default_at-set defaults t s k v h) [
        | inl e ↦
            let P : ℕ → Type 0 = λ n. shape_at table n ≡ Some (Optional u d) in
            let here : shape_at table t ≡ Some (Optional u d) = subst P e.0 shape in
            let both : Optional new.of new.given ≡ Optional u d = let q : Some (Optional new.of new.given) ≡ Some (Optional u d) = sym new.shape ∙ here in cc in
            let same_type : new.of ≡ u = cc in
            let same_given : new.given ≡ d = cc in
            more_made (view d) u.0 v (rw (← same_type, ← same_given, e.1) new.made)
        | inr e ↦ more_made (view d) u.0 v (far.kept k v e u d shape)
      ];
      only = λ k v h. elim (default_at-set defaults t s k v h) [
        | inl e ↦
            let P : ℕ → Type 0 = λ n. shape_at table n ≡ Some (Optional new.of new.given) in
            (new.of, new.given, subst P (sym e.0) new.shape)
        | inr e ↦ far.only k v e
      ];
      count = length-set defaults t (Some s) ∙ far.count;
    }

-- a default that is known isn't counted as unknown
known_none : (o : Option Snap) (defaults : List (Option Snap)) (t : ℕ) → slice_get defaults t ≡ Some o → default_at defaults t ≡ None → is_none o ≡ true
known_none None defaults t e h = refl
known_none (Some s) defaults t e h = let some : default_at defaults t ≡ Some (view s) = rw e refl in cc

pub unknown_count-more : (table : Table) (defaults : List (Option Snap)) (t : ℕ) (s : Snap)
    → AreSoFar table defaults → IsNew table defaults t (view s) → unknown_count (slice_set defaults t (Some s)) < unknown_count defaults
unknown_count-more table defaults t s far new =
    let within : t < length defaults = omega (arith, far.count, slice_get_within table.shapes t (Optional new.of new.given) new.shape) in
    let was : is_none (get_or defaults t None) ≡ true = known_none (get_or defaults t None) defaults t (slice_get-get_or defaults t None within) new.unknown in
    let count = rw was at (sum_by-set (λ (o : Option Snap). cond (is_none o) 1 0) defaults t (Some s) None within) in
    omega (arith, count)
