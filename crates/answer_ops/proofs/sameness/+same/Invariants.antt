-- What is left is the same exactly where all is.
use Rattle.std.proofs.Common.{◌≡◌, length, drop}
use Rattle.eval_core.specs.Answer.{same_answers}
use Rattle.answer_ops.specs.View.{answers_of}
use Rattle.answer_ops.proofs.sameness.+same.Given as goal

abbrev pub invariant-same_values-loop-i : goal.invariant-same_values-loop-i
invariant-same_values-loop-i l =
    (length l.xs ≡ length l.ys)
    × (same_answers (answers_of (drop l.i l.xs)) (answers_of (drop l.i l.ys)) ≡ same_answers (answers_of l.xs) (answers_of l.ys))
