-- What is left is equal exactly where all is.
use Rattle.std.proofs.Common.{◌≡◌, length, drop}
use Rattle.snap_core.specs.View.{items_view}
use Rattle.eval_core.specs.Answer.{equal_items}
use Rattle.answer_ops.specs.View.{answers_of}
use Rattle.answer_ops.proofs.sameness.+equals.Given as goal

abbrev pub invariant-equal_items-loop-i : goal.invariant-equal_items-loop-i
invariant-equal_items-loop-i l =
    (length l.xs ≡ length l.items)
    × (equal_items (answers_of (drop l.i l.xs)) (items_view (drop l.i l.items)) ≡ equal_items (answers_of l.xs) (items_view l.items))
