use Rattle.answer_ops.specs.View.{answer_of}
use Rattle.answer_ops.specs.declared.value.Value.{Value}
use Rattle.eval_core.specs.Operating.{in_bounds}
use Rattle.eval_core.specs.Scope.{judged}
use Rattle.std.proofs.Common.{Ok, Err, subst}
use Rattle.view_engine.specs.Did.{Read}
use Rattle.view_engine.specs.Progress.{scope_of}
use Rattle.view_engine.proofs.Doing.{read-handed, read-then, read-stop}
use Rattle.view_engine.proofs.operating.bounded_result.Goals as goal

pub returns-in_err-value : goal.returns-in_err-value
returns-in_err-value g c = λ eval read.
    let s = scope_of g.S.Bodies.says c.args.scope.now in
    let halt = c.in_err-value.field-0.0 in
    read-handed answer_of halt c.from_residual.result _ c.from_residual.ensures.1
    (read-stop {T = Value} {U = Value} answer_of answer_of halt eval (λ x. judged s (in_bounds x)) (subst (λ g'. Read answer_of g' eval) c.in_err-value.was read))

pub returns : goal.returns
returns g c = λ eval read.
    let s = scope_of g.S.Bodies.says c.args.scope.now in
    read-then answer_of answer_of c.in_ok-value.value c.bounded.result eval (λ x. judged s (in_bounds x)) (subst (λ g'. Read answer_of g' eval) c.in_ok-value.was read) c.bounded.ensures
