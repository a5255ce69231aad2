-- What is weighed so far, and what is left, weigh as much as the whole, up to the bound.
use Rattle.std.proofs.Common.{◌≡◌, ◌+◌, ◌≤◌, min, drop}
use Rattle.eval_core.specs.Answer.{answers_weight}
use Rattle.answer_ops.specs.View.{answers_of}
use Rattle.answer_ops.proofs.value.+weigh.Given as goal

abbrev pub invariant-weigh_values-loop-value : goal.invariant-weigh_values-loop-value
invariant-weigh_values-loop-value l =
    (l.sum ≤ l.most)
    × (min (l.sum + answers_weight (answers_of (drop l.value-index l.values))) l.most ≡ min (1 + answers_weight (answers_of l.values)) l.most)
