-- Operators on plain answers are the operators on plain values.
use Rattle.std.proofs.Common.{◌≡◌, Bool, true, false, Result, Ok, Err, if◌then◌else◌, refl}
use Rattle.snap_core.specs.Value.{Value}
use Rattle.pointer_core.specs.declared.refusal.Rule.{Rule}
use Rattle.expr_syntax.specs.declared.op.Op.{Op}
use Rattle.expr_syntax.specs.declared.op.Op.TheVariants.{Eq, Item}
use Rattle.plain_ops.specs.Limits.{is_bounded, in_range}
use Rattle.plain_ops.specs.Applied.{applied, operated}
use Rattle.eval_core.specs.Answer.{plain}
use Rattle.eval_core.specs.Scope.{Scope, judged}
use Rattle.eval_core.specs.Operating.{Judged, as_plain, operated_on, bounded_outcome}
use Rattle.eval_core.specs.Reading.{operate}
use Rattle.eval_core.specs.Laws.{PlainOperands}

as_plain-bounded : (o : Result Value Rule) → bounded_outcome (as_plain o) ≡ as_plain (in_range o)
as_plain-bounded (Err rule) = refl
as_plain-bounded (Ok v) = by_test (is_bounded v)
  where
    by_test : (b : Bool) → ◌≡◌ {A = Judged} (if b then Ok (plain v) else Err Rule.Range) (as_plain (if b then Ok v else Err Rule.Range))
    by_test true = refl
    by_test false = refl

tested : (op : Op) (v w : Value) → bounded_outcome (operated_on op (plain v) (plain w)) ≡ as_plain (operated op v w)
tested Eq v w = as_plain-bounded (applied Eq v w)
tested op v w = as_plain-bounded (applied op v w)

reads_nothing : (s : Scope) (op : Op) (v w : Value) → operate s op (plain v) (plain w) ≡ judged s (operated_on op (plain v) (plain w))
reads_nothing s Item v w = refl
reads_nothing s op v w = refl

pub plain-operands : PlainOperands
plain-operands s op v w = record { reads_nothing = reads_nothing s op v w; tested = tested op v w }
