use Rattle.std.proofs.Common.{sym, ◌∙◌, ap, subst}
use Rattle.snap_core.specs.View.{view}
use Rattle.eval_core.specs.Answer.{Answer}
use Rattle.eval_core.specs.Operating.{bounded_outcome, operated_on}
use Rattle.eval_core.specs.Reading.{operate}
use Rattle.eval_core.specs.Scope.{judged}
use Rattle.answer_ops.specs.View.{answer_of, answers_of}
use Rattle.answer_ops.proofs.Views.{answer-Plain, answer-Node, answer-Several}
use Rattle.view_engine.specs.Did.{Read}
use Rattle.view_engine.specs.Progress.{scope_of}
use Rattle.view_engine.specs.Steps.{tested}
use Rattle.view_engine.proofs.Operations.{plain-operated, several-operated}
use Rattle.view_engine.proofs.operating.operate.Goals as goal

pub returns-in-Node : goal.returns-in-Node
returns-in-Node g c =
    let s = scope_of g.S.Bodies.says c.args.scope.now in
    subst (λ x. Read answer_of c.operate_node.result (tested s (operate s c.args.op x (answer_of c.args.y.now)))) (sym (ap answer_of c.in-Node.is ∙ answer-Node c.in-Node.n)) c.operate_node.ensures

pub returns-in-Plain : goal.returns-in-Plain
returns-in-Plain g c =
    let s = scope_of g.S.Bodies.says c.args.scope.now in
    let y = answer_of c.args.y.now in
    let r = c.operate_plainly.result in
    let is = ap answer_of c.in-Plain.is ∙ answer-Plain c.in-Plain.field-0 in
    subst (λ (x : Answer). Read answer_of r (tested s (operate s c.args.op x y))) (sym is)
    (plain-operated s c.args.op (view c.in-Plain.field-0) y r (subst (λ (x : Answer). Read answer_of r (judged s (bounded_outcome (operated_on c.args.op x y)))) is c.operate_plainly.ensures))

pub returns-in-Several : goal.returns-in-Several
returns-in-Several g c =
    let s = scope_of g.S.Bodies.says c.args.scope.now in
    let y = answer_of c.args.y.now in
    let r = c.operate_plainly-in-Several.result in
    let is = ap answer_of c.in-Several.is ∙ answer-Several c.in-Several.field-0 in
    subst (λ (x : Answer). Read answer_of r (tested s (operate s c.args.op x y))) (sym is)
    (several-operated s c.args.op (answers_of c.in-Several.field-0) y r (subst (λ (x : Answer). Read answer_of r (judged s (bounded_outcome (operated_on c.args.op x y)))) is c.operate_plainly-in-Several.ensures))
