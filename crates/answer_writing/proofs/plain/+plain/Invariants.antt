-- What is left is plain exactly where all is.
use Rattle.std.proofs.Common.{◌≡◌, drop, is_some}
use Rattle.answer_ops.specs.View.{answers_of}
use Rattle.answer_writing.specs.Taking.{plains_in}
use Rattle.answer_writing.proofs.plain.+plain.Given as goal

abbrev pub invariant-are_plain-loop-x : goal.invariant-are_plain-loop-x
invariant-are_plain-loop-x l = is_some (plains_in (answers_of (drop l.x-index l.xs))) ≡ is_some (plains_in (answers_of l.xs))
