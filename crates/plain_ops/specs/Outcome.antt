-- What an operator comes to: a value, or the first rule that isn't met.
use Rattle.std.specs.Prelude.{◌≡◌, Result, Ok, Err}
use Rattle.snap_core.specs.Value.{Value}
use Rattle.snap_core.specs.View.{view}
use Rattle.snap_core.specs.declared.snap.Snap.{Snap}
use Rattle.pointer_core.specs.declared.refusal.Rule.{Rule}
use Rattle.plain_ops.specs.declared.errors.OpError.{OpError}
use Rattle.plain_ops.specs.declared.errors.OpError.TheVariants.{Memory, Kind, Range, Index}

abbrev pub Outcome : Type 0
Outcome = Result Value Rule

-- a call answers what an operator comes to, or is out of memory
abbrev pub AnswersOp : Result Snap OpError → Outcome → Type 0
AnswersOp (Ok given) outcome = outcome ≡ Ok (view given)
AnswersOp (Err Memory) outcome = Unit {0}
AnswersOp (Err Kind) outcome = outcome ≡ Err Rule.Kind
AnswersOp (Err Range) outcome = outcome ≡ Err Rule.Range
AnswersOp (Err Index) outcome = outcome ≡ Err Rule.Index
