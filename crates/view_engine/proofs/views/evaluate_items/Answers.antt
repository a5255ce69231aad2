use Rattle.std.proofs.Common.{Ok}
use Rattle.expr_syntax.specs.Syntax.{items}
use Rattle.expr_syntax.specs.Shown.{shown}
use Rattle.answer_ops.specs.View.{answer_of}
use Rattle.answer_ops.specs.declared.value.Value.{Value}
use Rattle.eval_core.specs.Evaluating.{evaluated, told}
use Rattle.view_engine.specs.Names.{names_of}
use Rattle.view_engine.specs.Progress.{scope_of}
use Rattle.view_engine.proofs.Doing.{did-handed, did-then, did-stop, read-did}
use Rattle.view_engine.proofs.views.evaluate_items.Goals as goal

pub returns-in_err-from : goal.returns-in_err-from
returns-in_err-from g c =
    let s = scope_of g.S.Bodies.says c.args.scope.now in
    let e = evaluated s (shown c.args.e.now) (names_of c.args.names.now) in
    did-handed answer_of c.in_err-from.field-0.0 c.from_residual.result _ _ c.from_residual.ensures.1
    (did-stop {T = Value} {U = Value} answer_of answer_of c.in_err-from.field-0.0 e (told s items) _ c.in_err-from.ensures)

pub returns : goal.returns
returns g c =
    let s = scope_of g.S.Bodies.says c.args.scope.now in
    let e = evaluated s (shown c.args.e.now) (names_of c.args.names.now) in
    did-then answer_of answer_of c.in_ok-from.from c.all_items.result e (told s items) _ _ _ _ _ _ c.in_ok-from.ensures (read-did answer_of _ _ _ _ c.all_items.ensures)
