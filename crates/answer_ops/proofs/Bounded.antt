-- A tested result of plain operands.
use Rattle.std.proofs.Common.{◌≡◌, Bool, true, false, Ok, Err, if◌then◌else◌, refl}
use Rattle.snap_core.specs.Value.{Value}
use Rattle.pointer_core.specs.declared.refusal.Rule.{Rule}
use Rattle.plain_ops.specs.Outcome.{Outcome}
use Rattle.plain_ops.specs.Limits.{is_bounded, in_range}
use Rattle.eval_core.specs.Answer.{plain}
use Rattle.eval_core.specs.Operating.{Judged, bounded_outcome, as_plain}

pub bounded-plain : (outcome : Outcome) → bounded_outcome (as_plain outcome) ≡ as_plain (in_range outcome)
bounded-plain (Err rule) = refl
bounded-plain (Ok v) = by_test (is_bounded v)
  where
    by_test : (b : Bool) → (if b then Ok (plain v) else Err Rule.Range) ≡ as_plain (if b then Ok v else Err Rule.Range)
    by_test true = refl
    by_test false = refl
