-- What is copied so far, in front of what is left, is all, and what is left is plain.
use Rattle.std.proofs.Common.{◌≡◌, drop, true, is_some}
use Rattle.answer_ops.specs.View.{answers_of}
use Rattle.answer_writing.specs.Taking.{plains_in}
use Rattle.answer_writing.proofs.Copies.{plain_before}
use Rattle.answer_writing.proofs.plain.+copy.Given as goal

abbrev pub invariant-copy_plains-loop-x : goal.invariant-copy_plains-loop-x
invariant-copy_plains-loop-x l =
    (plain_before l.values (plains_in (answers_of (drop l.x-index l.xs))) ≡ plains_in (answers_of l.xs))
    × (is_some (plains_in (answers_of (drop l.x-index l.xs))) ≡ true)
