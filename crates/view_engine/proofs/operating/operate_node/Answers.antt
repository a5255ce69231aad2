use Rattle.std.proofs.Common.{sym, subst}
use Rattle.expr_syntax.specs.declared.op.Op.{Op}
use Rattle.eval_core.specs.Answer.{Answer, node}
use Rattle.eval_core.specs.Operating.{bounded_outcome, operated_on}
use Rattle.eval_core.specs.Reading.{operate}
use Rattle.eval_core.specs.Scope.{judged}
use Rattle.answer_ops.specs.View.{answer_of}
use Rattle.answer_ops.proofs.Views.{answer-Node}
use Rattle.view_engine.specs.Did.{Read}
use Rattle.view_engine.specs.Progress.{scope_of}
use Rattle.view_engine.specs.Steps.{tested}
use Rattle.view_engine.proofs.Operations.{node-operated}
use Rattle.view_engine.proofs.operating.operate_node.Goals as goal

pub returns-in-Item : goal.returns-in-Item
returns-in-Item g c =
    let s = scope_of g.S.Bodies.says c.args.scope.now in
    subst (λ (op : Op). Read answer_of c.bounded_result.result (tested s (operate s op (node c.args.n) (answer_of c.args.y.now)))) (sym c.in-Item.is) (c.bounded_result.ensures _ c.part_of.ensures)

pub returns-in-Has : goal.returns-in-Has
returns-in-Has g c =
    let s = scope_of g.S.Bodies.says c.args.scope.now in
    subst (λ (op : Op). Read answer_of c.bounded_result-in-Has.result (tested s (operate s op (node c.args.n) (answer_of c.args.y.now)))) (sym c.in-Has.is) (c.bounded_result-in-Has.ensures _ c.has_key.ensures)

pub returns-in-Size : goal.returns-in-Size
returns-in-Size g c =
    let s = scope_of g.S.Bodies.says c.args.scope.now in
    subst (λ (op : Op). Read answer_of c.size_of.result (tested s (operate s op (node c.args.n) (answer_of c.args.y.now)))) (sym c.in-Size.is) (c.size_of.ensures (answer_of c.args.y.now))

pub returns-in_default : goal.returns-in_default
returns-in_default g c =
    let s = scope_of g.S.Bodies.says c.args.scope.now in
    let y = answer_of c.args.y.now in
    let r = c.operate_plainly.result in
    node-operated s c.args.op c.args.n y r c.in_default.not-Item c.in_default.not-Has c.in_default.not-Size
    (subst (λ (x : Answer). Read answer_of r (judged s (bounded_outcome (operated_on c.args.op x y)))) (answer-Node c.args.n) c.operate_plainly.ensures)
