-- Operators on answers keep the relation.
use Rattle.std.proofs.Common.{ℕ, zero, suc, Bool, true, false, Option, Some, None, Result, Ok, Err, if◌then◌else◌}
use Rattle.std.specs.Prelude.{IfOk}
use Rattle.snap_core.specs.Value.{Value, integer}
use Rattle.snap_core.specs.declared.number.NodeNo.{NodeNo}
use Rattle.pointer_core.specs.declared.refusal.Rule.{Rule}
use Rattle.expr_syntax.specs.declared.op.Op.{Op}
use Rattle.expr_syntax.specs.declared.op.Op.TheVariants.{Eq, Item, Has, Size}
use Rattle.plain_ops.specs.Applied.{applied, index_in}
use Rattle.eval_core.specs.Answer.{Answer, AnswerList, plain, node, several, no_answers, answer, answer_at}
use Rattle.eval_core.specs.Operating.{as_plain, on_plain, one_of, answer_under, or_index, operated_on, in_bounds}
use Rattle.eval_core.specs.Scope
use Rattle.eval_core.specs.Reading.{operate}
use Rattle.eval_core.specs.Answer.{is_bounded_answer}
use Rattle.eval_core.specs.Pairing.{Pairing, left_scope, right_scope, InAnswer, InAnswers}
use Rattle.eval_core.proofs.Steps
use Rattle.eval_core.proofs.Steps.{judging}
use Rattle.eval_core.proofs.Readings.{of_node, item_kind, has_kind, size_kind}

as_plain-good : (Good : NodeNo → Type 0) (o : Result Value Rule) → IfOk (as_plain o) (InAnswer Good)
as_plain-good Good (Ok v) = tt
as_plain-good Good (Err rule) = tt

on_plain-good : (Good : NodeNo → Type 0) (op : Op) (x y : Answer) → IfOk (on_plain op x y) (InAnswer Good)
on_plain-good Good op (plain v) (plain w) = as_plain-good Good (applied op v w)
on_plain-good Good op (plain v) (node n) = tt
on_plain-good Good op (plain v) (several xs) = tt
on_plain-good Good op (node n) y = tt
on_plain-good Good op (several xs) y = tt

or_index-good : (Good : NodeNo → Type 0) (n : ℕ) (xs : AnswerList) → InAnswers Good xs → IfOk (or_index (answer_at n xs)) (InAnswer Good)
or_index-good Good n no_answers good = tt
or_index-good Good zero (answer x xs) good = good.0
or_index-good Good (suc n) (answer x xs) good = or_index-good Good n xs good.1

under-good : (Good : NodeNo → Type 0) (xs : AnswerList) (i : Option ℕ) → InAnswers Good xs → IfOk (answer_under xs i) (InAnswer Good)
under-good Good xs (Some n) good = or_index-good Good n xs good
under-good Good xs None good = tt

one_of-good : (Good : NodeNo → Type 0) (xs : AnswerList) (k : Answer) → InAnswers Good xs → IfOk (one_of xs k) (InAnswer Good)
one_of-good Good xs (plain (integer z)) good = under-good Good xs (index_in z) good
one_of-good Good xs _ good = tt

operated-good : (Good : NodeNo → Type 0) (op : Op) (x y : Answer) → InAnswer Good x → IfOk (operated_on op x y) (InAnswer Good)
operated-good Good Eq x y good = tt
operated-good Good Item (several xs) k good = one_of-good Good xs k good
operated-good Good Size (several xs) y good = tt
operated-good Good op x y good = on_plain-good Good op x y

pub operating : (p : Pairing) (op : Op) (x y : Answer) → InAnswer p.Good x → Steps.ArePaired p (operate (left_scope p) op x y) (operate (right_scope p) op x y)
operating p Item (node n) k good = of_node p n _ _ good (λ kind. item_kind p n k kind good)
operating p Has (node n) k good = of_node p n _ _ good (λ kind. has_kind p n k kind good)
operating p Size (node n) y good = of_node p n _ _ good (λ kind. size_kind p n kind good)
operating p op x y good = judging p Answer (InAnswer p.Good) (operated_on op x y) (operated-good p.Good op x y good)

-- a result
bounds-good : (Good : NodeNo → Type 0) (x : Answer) → InAnswer Good x → IfOk (in_bounds x) (InAnswer Good)
bounds-good Good x good = by_test (is_bounded_answer x)
  where
    by_test : (b : Bool) → IfOk {T = Answer} {E = Rule} (if b then Ok x else Err Rule.Range) (InAnswer Good)
    by_test true = good
    by_test false = tt

pub bounding : (p : Pairing) (x : Answer) → InAnswer p.Good x
    → Steps.ArePaired p (Scope.judged (left_scope p) (in_bounds x)) (Scope.judged (right_scope p) (in_bounds x))
bounding p x good = judging p Answer (InAnswer p.Good) (in_bounds x) (bounds-good p.Good x good)
