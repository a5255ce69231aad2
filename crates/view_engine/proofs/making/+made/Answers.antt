use Rattle.std.proofs.Common.{arith}
use Rattle.eval_core.specs.Making.{made_values}
use Rattle.answer_ops.specs.View.{answers_of}
use Rattle.view_engine.specs.Progress.{scope_of}
use Rattle.view_engine.proofs.LeavesMade.{made-stops, made-goes_on, made-ends}
use Rattle.view_engine.proofs.making.+made.Goals as goal

pub made_items-returns-in_err-made : goal.made_items-returns-in_err-made
made_items-returns-in_err-made g t c =
    let s = scope_of g.S.Bodies.says c.args.scope.now in
    made-stops s.here s.sight c.as_slice-value-items.result.now c.args.values.now c.loop-value.value-index c.value-item.result c.loop-value.items c.in_err-made.field-0.0 c.from_residual.result
    (made_values s.sight (answers_of c.args.values.now)) c.as_slice-value-items.ensures c.loop-value-test.true c.value-item.is c.loop-value.invariant c.from_residual.ensures.1 c.in_err-made.ensures

pub made_items-loop-value-preserved : goal.made_items-loop-value-preserved
made_items-loop-value-preserved g t c =
    let s = scope_of g.S.Bodies.says c.args.scope.now in
    made-goes_on s.here s.sight c.as_slice-value-items.result.now c.args.values.now c.loop-value.value-index c.value-item.result c.in_ok-made.field-0 c.loop-value.items c.push.new.self
    (made_values s.sight (answers_of c.args.values.now)) c.as_slice-value-items.ensures c.loop-value-test.true c.value-item.is c.in_ok-made.ensures c.in_ok-push.ensures.ok c.loop-value.invariant

pub made_items-returns : goal.made_items-returns
made_items-returns g t c =
    let s = scope_of g.S.Bodies.says c.args.scope.now in
    made-ends s.here s.sight c.as_slice-value-items.result.now c.args.values.now c.loop-value.value-index c.loop-value.items
    (made_values s.sight (answers_of c.args.values.now)) c.as_slice-value-items.ensures (omega (arith, c.loop-value-test.false)) c.loop-value.invariant
