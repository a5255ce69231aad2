use Rattle.std.proofs.Common.{◌∙◌}
use Rattle.node_core.specs.View.{items}
use Rattle.answer_writing.specs.View.{taking}
use Rattle.answer_writing.proofs.ItemsTaken.{fault-next}
use Rattle.answer_writing.proofs.taking.+fault.Goals as goal

pub fault_among-loop-i-preserved : goal.fault_among-loop-i-preserved
fault_among-loop-i-preserved t c =
    fault-next (taking c.args.by.now) c.args.xs.now c.args.of.0 (items c.args.held.now) c.loop-i.i c.index-xs-i.result c.loop-i-test.true c.index-xs-i.is
    _ (c.item_held.ensures c.args.of.0) c.fault_in-fault.result c.fault_in-fault.ensures c.if-is_some.ensures
    ∙ c.loop-i.invariant
