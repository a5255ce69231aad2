-- How a call relates to the evaluation that it does: a part of a statement, or several of them.
use Rattle.std.specs.Prelude.{◌≡◌, Bool, Result, Ok, Err}
use Rattle.pointer_core.specs.Path.{Path}
use Rattle.pointer_core.specs.declared.refusal.Rule.TheVariants as rule
use Rattle.live_tree.specs.Contents.{Contents, state}
use Rattle.eval_core.specs.Answer.{Answer, AnswerList}
use Rattle.eval_core.specs.Asking.{frame_scope}
use Rattle.eval_core.specs.Operating.{truth_in}
use Rattle.eval_core.specs.Run.{Eval}
use Rattle.eval_core.specs.Scope.{Scope}
use Rattle.answer_ops.specs.View.{answer_of, answers_of}
use Rattle.view_engine.specs.Did.{Course, Did}
use Rattle.view_engine.specs.Halts.{fault_of}
use Rattle.view_engine.specs.Told.{Telling, refusal_of}
use Rattle.view_engine.specs.declared.halt.Fault.{Fault}
use Rattle.view_engine.specs.declared.halt.Halt.{Halt}
use Rattle.view_engine.specs.declared.halt.Halt.TheVariants as halts
use Rattle.view_engine.specs.declared.halt.RunError.{RunError}
use Rattle.view_engine.specs.declared.halt.RunError.TheVariants.{Memory, Refused}
use Rattle.action_core.specs.Behaving.{sight_in}
use Rattle.action_steps.specs.Acting.{behaving_of}
use Rattle.action_steps.specs.Doing.{IsRefusal}
use Rattle.action_steps.specs.declared.acting.Acting.{Acting}
use Rattle.action_steps.specs.declared.parts.TwoParts.{TwoParts}
use Rattle.action_steps.specs.declared.parts.ThreeParts.{ThreeParts}
use Rattle.action_steps.specs.declared.parts.CallParts.{CallParts}

-- by what the expressions of a frame are evaluated
abbrev pub scope_in : Acting → Contents → Scope
scope_in a tree = frame_scope (behaving_of a.schema.now).viewing (sight_in (behaving_of a.schema.now) (state tree).tree)

-- by what their refusals are told
abbrev pub telling_in : Acting → Contents → Telling
telling_in a tree =
    record { sight = sight_in (behaving_of a.schema.now) (state tree).tree; name_of = (behaving_of a.schema.now).name_of; frame = a.frame.now }

-- what evaluating came to, told
abbrev pub IsTold : {T : Type 0} → Telling → Result T RunError → Result T Halt → Type 0
IsTold t (Ok x) halted = halted ≡ Ok x
IsTold t (Err (Refused r)) halted = (fault : Fault) × (halted ≡ Err (halts.Refused fault)) × (r ≡ refusal_of t (fault_of fault))
IsTold t (Err Memory) halted = halted ≡ Err halts.Memory

-- A call did an evaluation, and what it came to is told.
pub record Evaluates {T A : Type 0} (t : Telling) (seen : T → A) (result : Result T RunError) (eval : Eval A) (way : Course) : Type 0 where
  pub halted : Result T Halt
  pub did : Did seen halted eval way
  pub told : IsTold t result halted

-- in a frame
abbrev pub EvaluatesIn : {T A : Type 0} → Acting → Contents → (T → A) → Result T RunError → (Scope → Eval A) → Course → Type 0
EvaluatesIn a tree seen result eval way = Evaluates (telling_in a tree) seen result (eval (scope_in a tree)) way

-- the truth that an answer is; any other answer is of the wrong kind, in a frame
abbrev pub IsTruthIn : Result Bool RunError → Answer → Path → Type 0
IsTruthIn (Ok b) x frame = truth_in x ≡ Ok b
IsTruthIn (Err e) x frame = (truth_in x ≡ Err rule.Kind) × IsRefusal e frame rule.Kind

-- what two parts give, and three, and those of a call
abbrev pub both_of : TwoParts → Answer × Answer
both_of xs = (answer_of xs.first, answer_of xs.second)

abbrev pub three_of : ThreeParts → Answer × Answer × Answer
three_of xs = (answer_of xs.first, answer_of xs.second, answer_of xs.third)

abbrev pub call_of : CallParts → Answer × AnswerList
call_of parts = (answer_of parts.on, answers_of parts.args)
