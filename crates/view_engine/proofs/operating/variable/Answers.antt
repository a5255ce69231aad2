use Rattle.std.proofs.Common.{Err, ◌∙◌, ap, subst}
use Rattle.pointer_core.specs.declared.refusal.Rule.{Rule}
use Rattle.eval_core.specs.Evaluating.{bound_answer}
use Rattle.eval_core.specs.Operating.{in_bounds}
use Rattle.eval_core.specs.Scope.{bound_in, judged, refused}
use Rattle.answer_ops.specs.View.{answer_of}
use Rattle.answer_ops.specs.declared.value.Value.{Value}
use Rattle.view_engine.specs.Did.{Read}
use Rattle.view_engine.specs.Names.{names_of}
use Rattle.view_engine.specs.Progress.{scope_of}
use Rattle.view_engine.specs.Steps.{tested}
use Rattle.view_engine.proofs.Doing.{read-stop, read-refused, tested-gives}
use Rattle.view_engine.proofs.operating.variable.Goals as goal

pub returns-in_ok-copy-in-Some : goal.returns-in_ok-copy-in-Some
returns-in_ok-copy-in-Some g c =
    let s = scope_of g.S.Bodies.says c.args.scope.now in
    let is = c.in-Some.ensures ∙ ap (λ n. bound_in n (names_of c.args.names.now)) c.text.ensures.text in
    subst (λ o. Read answer_of c.bounded.result (tested s (bound_answer s o))) is
    (tested-gives s (answer_of c.in-Some.value.now) c.bounded.result
    (subst (λ (v : Value). Read answer_of c.bounded.result (judged s (in_bounds (answer_of v)))) c.in_ok-copy-in-Some.ensures c.bounded.ensures))

pub returns-in-None : goal.returns-in-None
returns-in-None g c =
    let s = scope_of g.S.Bodies.says c.args.scope.now in
    let is = c.in-None.ensures ∙ ap (λ n. bound_in n (names_of c.args.names.now)) c.text.ensures.text in
    subst (λ o. Read {T = Value} answer_of (Err c.refused.result) (tested s (bound_answer s o))) is
    (read-stop {T = Value} {U = Value} answer_of answer_of c.refused.result (refused s Rule.Kind) _ (read-refused {T = Value} answer_of s Rule.Kind c.refused.result c.refused.ensures))
