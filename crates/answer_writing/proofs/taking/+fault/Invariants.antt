-- The first fault among what is left is that among all.
use Rattle.std.proofs.Common.{◌≡◌, drop}
use Rattle.node_core.specs.View.{items}
use Rattle.answer_ops.specs.View.{answers_of}
use Rattle.answer_writing.specs.Taking.{fault_among}
use Rattle.answer_writing.specs.View.{taking}
use Rattle.answer_writing.proofs.taking.+fault.Given as goal

abbrev pub invariant-fault_among-loop-i : goal.invariant-fault_among-loop-i
invariant-fault_among-loop-i l =
    fault_among (taking l.by) (answers_of (drop l.i l.xs)) l.of.0 (drop l.i (items l.held))
    ≡ fault_among (taking l.by) (answers_of l.xs) l.of.0 (items l.held)
