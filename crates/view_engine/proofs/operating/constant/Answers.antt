use Rattle.std.proofs.Common.{ap, ◌∙◌, subst}
use Rattle.snap_core.specs.View.{view}
use Rattle.answer_ops.specs.View.{answer_of}
use Rattle.answer_ops.proofs.Views.{answer-Plain}
use Rattle.eval_core.specs.Answer.{plain}
use Rattle.eval_core.specs.Operating.{in_bounds}
use Rattle.eval_core.specs.Scope.{judged}
use Rattle.view_engine.specs.Did.{Read}
use Rattle.view_engine.specs.Progress.{scope_of}
use Rattle.view_engine.proofs.Doing.{tested-gives}
use Rattle.view_engine.proofs.Loops.{walk-goes_on}
use Rattle.view_engine.proofs.Courses.{uncounted}
use Rattle.view_engine.proofs.Choices.{branch-taken}
use Rattle.view_engine.proofs.Bindings.{names-Bound}
use Rattle.view_engine.proofs.operating.constant.Goals as goal

pub returns : goal.returns
returns g c =
    let s = scope_of g.S.Bodies.says c.args.scope.now in
    tested-gives s (plain (view c.args.value.now)) c.bounded.result
    (subst (λ x. Read answer_of c.bounded.result (judged s (in_bounds x))) (answer-Plain c.in_ok-copy.copy ∙ ap (λ v. plain (view v)) c.in_ok-copy.ensures) c.bounded.ensures)
