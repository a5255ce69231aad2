-- What a call that evaluates answers, by an outcome.
use Rattle.std.specs.Prelude.{◌≡◌, Result, Ok, Err}
use Rattle.eval_core.specs.Run as run
use Rattle.view_engine.specs.declared.halt.Fault.{Fault}
use Rattle.view_engine.specs.declared.halt.Halt.{Halt}
use Rattle.view_engine.specs.declared.halt.Halt.TheVariants.{Memory, Refused}

abbrev pub fault_of : Fault → run.Fault
fault_of f = record { rule = f.rule; site = f.site }

-- the answer is what the outcome says, unless memory ran out
abbrev pub Answers : {T A : Type 0} → (T → A) → Result T Halt → Result A run.Fault → Type 0
Answers seen (Ok given) outcome = outcome ≡ Ok (seen given)
Answers seen (Err (Refused fault)) outcome = outcome ≡ Err (fault_of fault)
Answers seen (Err Memory) outcome = Unit {0}
