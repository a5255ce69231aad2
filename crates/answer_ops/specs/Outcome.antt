-- What an operator on answers comes to.
use Rattle.std.specs.Prelude.{◌≡◌, Result, Ok, Err}
use Rattle.pointer_core.specs.declared.refusal.Rule.{Rule}
use Rattle.plain_ops.specs.declared.errors.OpError.{OpError}
use Rattle.plain_ops.specs.declared.errors.OpError.TheVariants.{Memory, Kind, Range, Index}
use Rattle.eval_core.specs.Operating.{Judged}
use Rattle.answer_ops.specs.declared.value.Value.{Value}
use Rattle.answer_ops.specs.View.{answer_of}

-- a call answers what is judged, or is out of memory
abbrev pub AnswersAs : Result Value OpError → Judged → Type 0
AnswersAs (Ok given) judged = judged ≡ Ok (answer_of given)
AnswersAs (Err Memory) judged = Unit {0}
AnswersAs (Err Kind) judged = judged ≡ Err Rule.Kind
AnswersAs (Err Range) judged = judged ≡ Err Rule.Range
AnswersAs (Err Index) judged = judged ≡ Err Rule.Index
