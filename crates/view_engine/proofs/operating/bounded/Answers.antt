use Rattle.std.proofs.Common.{◌≡◌, true, false, sym, ◌∙◌}
use Rattle.answer_ops.specs.View.{answer_of}
use Rattle.eval_core.specs.Answer.{is_bounded_answer}
use Rattle.view_engine.specs.Progress.{scope_of}
use Rattle.view_engine.proofs.Doing.{read-bounded, read-unbounded}
use Rattle.view_engine.proofs.operating.bounded.Goals as goal

pub returns-then-is_bounded : goal.returns-then-is_bounded
returns-then-is_bounded g c =
    let fits : is_bounded_answer (answer_of c.args.value) ≡ true = cc in
    read-bounded (scope_of g.S.Bodies.says c.args.scope.now) c.args.value fits

pub returns-else-is_bounded : goal.returns-else-is_bounded
returns-else-is_bounded g c =
    let fails : is_bounded_answer (answer_of c.args.value) ≡ false = cc in
    read-unbounded (scope_of g.S.Bodies.says c.args.scope.now) (answer_of c.args.value) _ fails c.refused.ensures
