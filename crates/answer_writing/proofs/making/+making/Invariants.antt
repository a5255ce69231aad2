-- What is made so far, in front of what is left comes to, is what all of it comes to.
use Rattle.std.proofs.Common.{◌≡◌, drop}
use Rattle.node_core.specs.View.{items}
use Rattle.type_core.specs.Making.{items_made}
use Rattle.type_core.proofs.Items.{items_before}
use Rattle.answer_ops.specs.View.{answers_of}
use Rattle.answer_writing.specs.Taking.{answers_made}
use Rattle.answer_writing.specs.View.{taking}
use Rattle.answer_writing.proofs.making.+making.Given as goal

abbrev pub invariant-make_items-loop-i : goal.invariant-make_items-loop-i
invariant-make_items-loop-i l =
    items_before l.made (items_made l.i l.of.0 (answers_made (taking l.by) (answers_of (drop l.i l.xs)) (drop l.i (items l.held))))
    ≡ items_made 0 l.of.0 (answers_made (taking l.by) (answers_of l.xs) (items l.held))
