-- The deepest so far and the deepest of what is left make the deepest of all, up to the bound.
use Rattle.std.proofs.Common.{◌≡◌, ◌≤◌, max, min, drop}
use Rattle.eval_core.specs.Answer.{answers_depth}
use Rattle.answer_ops.specs.View.{answers_of}
use Rattle.answer_ops.proofs.value.+deepen.Given as goal

abbrev pub invariant-deepest_value-loop-value : goal.invariant-deepest_value-loop-value
invariant-deepest_value-loop-value l =
    (l.deepest ≤ l.most)
    × (max l.deepest (min (answers_depth (answers_of (drop l.value-index l.values))) l.most) ≡ min (answers_depth (answers_of l.values)) l.most)
