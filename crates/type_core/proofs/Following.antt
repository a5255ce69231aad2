-- What stands behind types, as it is found type by type.
use Rattle.std.proofs.Common.{◌≡◌, ℕ, zero, suc, ◌+◌, List, [], ◌∷◌, ◌++◌, length, slice_get, slice_set, Bool, Option, Some, inl, inr, refl, sym, ap, ◌∙◌, subst, arith, length-append}
use Rattle.std.specs.Prelude.{◌⊎◌}
use Rattle.snap_core.specs.Value.{Value}
use Rattle.snap_core.specs.declared.number.TypeNo.{TypeNo}
use Rattle.type_table.specs.declared.shape.Shape.{Shape}
use Rattle.type_table.specs.declared.shape.Shape.TheVariants.{Union}
use Rattle.type_table.specs.Table.{Table, shape_at}
use Rattle.type_table.specs.Unions.{chosen}
use Rattle.type_core.specs.Judging.{is_null, shape_for, judged_by_choice, judged_step, judged_by}
use Rattle.type_core.specs.Behind.{IsJudgedAs, AreBehind}
use Rattle.type_table.proofs.Named.{slice_get-set_cases, slice_get-set_here}
use Rattle.type_core.proofs.Chains.{IsLoopless, judged_by-step, judged_by-at}

-- what stands in a list with one more element stood there before, or is that element
pub slice_get-last : {X : Type 0} (xs : List X) (y : X) (i : ℕ) (x : X)
    → slice_get (xs ++ y ∷ []) i ≡ Some x → (slice_get xs i ≡ Some x) ⊎ ((i ≡ length xs) × (x ≡ y))
slice_get-last [] y zero x h = inr (refl, cc)
slice_get-last [] y (suc i) x h = cc
slice_get-last (z ∷ xs) y zero x h = inl h
slice_get-last (z ∷ xs) y (suc i) x h = elim (slice_get-last xs y i x h) [ inl e ↦ inl e | inr e ↦ inr (ap (λ n. suc n) e.0, e.1) ]

-- the types so far, each beside itself, and how many they are
pub record AreThemselves (ends : List TypeNo) (so_many : ℕ) : Type 0 where
  pub each : (t : ℕ) (u : TypeNo) → slice_get ends t ≡ Some u → u.0 ≡ t
  pub count : length ends ≡ so_many

pub AreThemselves-none : AreThemselves [] 0
AreThemselves-none = record { each = λ t u h. cc; count = refl }

pub AreThemselves-more : (ends : List TypeNo) (t : ℕ) → AreThemselves ends t → AreThemselves (ends ++ record { 0 = t } ∷ []) (t + 1)
AreThemselves-more ends t so_far = record {
  each = λ k u h. elim (slice_get-last ends (record { 0 = t }) k u h) [
    | inl before ↦ so_far.each k u before
    | inr last ↦ ap (λ (w : TypeNo). w.0) last.1 ∙ sym so_far.count ∙ sym last.0
  ];
  count = omega (arith, length-append ends (record { 0 = t } ∷ []), so_far.count);
}

pub themselves-behind : (table : Table) (null : Bool) (ends : List TypeNo) → ((t : ℕ) (u : TypeNo) → slice_get ends t ≡ Some u → u.0 ≡ t) → AreBehind table null ends
themselves-behind table null ends each t u h v is = ap (judged_by table v) (sym (each t u h))

module _ (table : Table) (loopless : IsLoopless table) where
  -- what stands beside the next type stands beside this one too
  pub AreBehind-set : (null : Bool) (ends : List TypeNo) (t : ℕ) (next end : TypeNo) → AreBehind table null ends
      → ((v : Value) (further : ℕ → Option Shape) → is_null v ≡ null → judged_step table v further (shape_for table v t) ≡ further next.0)
      → IsJudgedAs table null next.0 end → AreBehind table null (slice_set ends t end)
  AreBehind-set null ends t next end known step alike k u h v is =
      elim (slice_get-set_cases ends t end k u h) [
        | inl e ↦
            let Here : ℕ → Type 0 = λ n. slice_get (slice_set ends t end) n ≡ Some u in
            let same : end ≡ u = slice_get-set_here ends t end u (subst Here e h) in
            ap (judged_by table v) e ∙ judged_by-step table loopless v t ∙ step v (judged_by table v) is ∙ alike v is ∙ ap (λ (w : TypeNo). judged_by table v w.0) same
        | inr old ↦ known k u old v is
      ]

  -- a union is judged as the member that the value chooses
  pub judged_by-union : (v : Value) (t : ℕ) (ms : List TypeNo) (o : Option TypeNo) → shape_at table t ≡ Some (Union ms) → o ≡ chosen table ms v
      → judged_by table v t ≡ judged_by_choice (judged_by table v) o
  judged_by-union v t ms o shape choice =
      judged_by-at table loopless v t (Union ms) shape refl ∙ ap (judged_by_choice (judged_by table v)) (sym choice)
