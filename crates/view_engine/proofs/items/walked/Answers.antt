use Rattle.std.proofs.Common.{sym, ◌∙◌, ap, subst}
use Rattle.eval_core.specs.Walking.{walked}
use Rattle.answer_ops.specs.View.{answer_of}
use Rattle.answer_ops.proofs.Views.{answer-Plain, answer-Node}
use Rattle.view_engine.specs.Did.{Read}
use Rattle.view_engine.specs.Progress.{scope_of, whole_in}
use Rattle.view_engine.specs.Walked.{items_of}
use Rattle.view_engine.proofs.Levels.{walked-several}
use Rattle.view_engine.proofs.items.walked.Goals as goal

pub returns-in-Node : goal.returns-in-Node
returns-in-Node g c =
    subst (λ x. Read (items_of (whole_in g.S.Bodies.says c.args.scope.now)) c.walked_node.result (walked (scope_of g.S.Bodies.says c.args.scope.now) x)) (sym (ap answer_of c.in-Node.is ∙ answer-Node c.in-Node.n)) c.walked_node.ensures

pub returns-in-Several : goal.returns-in-Several
returns-in-Several g c = walked-several (scope_of g.S.Bodies.says c.args.scope.now) (whole_in g.S.Bodies.says c.args.scope.now) c.args.from c.in-Several.values _ c.in-Several.is (cc)

pub returns-in-Plain : goal.returns-in-Plain
returns-in-Plain g c =
    let h = c.in-Plain.is in let k = c.walked_list.ensures in
    subst (λ x. Read (items_of (whole_in g.S.Bodies.says c.args.scope.now)) c.walked_list.result (walked (scope_of g.S.Bodies.says c.args.scope.now) x)) (sym (ap answer_of c.in-Plain.is ∙ answer-Plain c.in-Plain.value)) c.walked_list.ensures
