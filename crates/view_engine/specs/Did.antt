-- How a call relates to the evaluation that it does.
use Rattle.std.specs.Prelude.{◌≡◌, ℕ, ◌+◌, ◌≤◌, List, [], ◌∷◌, Result, OnOk}
use Rattle.eval_core.specs.Run.{Eval, Run, Entered}
use Rattle.view_engine.specs.declared.halt.Halt.{Halt}
use Rattle.view_engine.specs.Halts.{Answers}

-- the expressions that were counted in the bodies that were entered
abbrev pub counted_within : List Entered → ℕ
counted_within [] = 0
counted_within (e ∷ es) = e.own + counted_within es

-- the expressions that a run counts, those of the bodies that it enters included
abbrev pub cost_of : {A : Type 0} → Run A → ℕ
cost_of run = run.own + counted_within run.entered

-- the expressions counted in the body, and the steps taken: before a call and after it
pub record Course : Type 0 where
  pub counted : ℕ
  pub counted_after : ℕ
  pub steps : ℕ
  pub steps_after : ℕ

abbrev pub course : ℕ → ℕ → ℕ → ℕ → Course
course counted counted_after steps steps_after = record { counted = counted; counted_after = counted_after; steps = steps; steps_after = steps_after }

-- A call that counts did an evaluation: it answers its outcome, counts what it counts, and takes no more steps than
-- that costs, also where memory runs out.
pub record Did {T A : Type 0} (seen : T → A) (result : Result T Halt) (eval : Eval A) (way : Course) : Type 0 where
  pub outcome : Answers seen result (eval way.counted).outcome
  pub counted : OnOk result (way.counted_after ≡ way.counted + (eval way.counted).own)
  pub ticks : way.steps_after ≤ way.steps + cost_of (eval way.counted)

-- A call that counts nothing did an evaluation that counts nothing.
pub record Read {T A : Type 0} (seen : T → A) (result : Result T Halt) (eval : Eval A) : Type 0 where
  pub outcome : (before : ℕ) → Answers seen result (eval before).outcome
  pub own : (before : ℕ) → OnOk result ((eval before).own ≡ 0)
