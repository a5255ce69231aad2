use Rattle.std.proofs.Common.{◌+◌, ◌-◌, ◌∙◌, sym}
use Rattle.tree_core.specs.Asking.{inner_within}
use Rattle.tree_reading.proofs.InnerTypes.{inner_within-step}
use Rattle.tree_reading.proofs.typing.inner_type.Goals as goal

pub loop-preserved : goal.loop-preserved
loop-preserved c =
    let l = c.loop in
    let table = c.args.types.now.table in
    sym (inner_within-step table l.counter c.count-end.result l.at.0 c.loop-test.true ∙ c.in-Some.ensures (inner_within table (c.count-end.result - (l.counter + 1)))) ∙ l.invariant
