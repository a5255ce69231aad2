-- Judging step by step.
use Rattle.std.proofs.Common.{◌≡◌, ℕ, suc, zero, ◌+◌, ◌-◌, ◌<◌, ◌≤◌, Option, None, ◌∙◌, sym, subst, arith}
use Rattle.snap_core.specs.Value.{Value}
use Rattle.type_table.specs.declared.shape.Shape.{Shape}
use Rattle.type_core.specs.declared.judging.Step.{Step}
use Rattle.type_table.specs.Table.{Table}
use Rattle.type_core.specs.Judging.{shape_for, judged_step, judged_within}
use Rattle.type_core.specs.JudgingSteps.{judged_after}

module _ (table : Table) (v : Value) (most i at : ℕ) (whole : Option Shape) (so_far : judged_within table v (most - i) at ≡ whole) where
  -- the step at this type comes to the whole
  pub judged-next : (step : Step) → i < most
      → ((further : ℕ → Option Shape) → judged_after further step ≡ judged_step table v further (shape_for table v at))
      → judged_after (judged_within table v (most - (i + 1))) step ≡ whole
  judged-next step within taken =
      let e : most - i ≡ suc (most - (i + 1)) = omega arith in
      let P : ℕ → Type 0 = λ left. judged_within table v left at ≡ whole in
      taken (judged_within table v (most - (i + 1))) ∙ subst P e so_far

  -- after as many steps as there are types nothing judges
  pub judged-none : most ≤ i → whole ≡ None
  judged-none past =
      let e : most - i ≡ zero = omega arith in
      let P : ℕ → Type 0 = λ left. judged_within table v left at ≡ whole in
      sym (subst P e so_far)
