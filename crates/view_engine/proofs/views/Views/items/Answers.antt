use Rattle.std.proofs.Common.{Ok, Err, subst}
use Rattle.expr_syntax.specs.Shown.{shown}
use Rattle.eval_core.specs.Asking.{frame_scope}
use Rattle.view_engine.specs.Asks.{sight_by, telling, items_in_frame}
use Rattle.view_engine.specs.Progress.{telling_by}
use Rattle.view_engine.specs.Told.{Telling, Tells}
use Rattle.view_engine.proofs.Framing.{framed-items, counted-told, tells-handed}
use Rattle.view_engine.proofs.views.Views.items.Goals as goal

pub returns-in_err-value-clause-answer : goal.returns-in_err-value-clause-answer
returns-in_err-value-clause-answer g c =
    let says = g.S.Bodies.says c.args.schema.now in
    let framed = c.args.framed_by.now in
    let did = framed-items _ (frame_scope says.viewing (sight_by says c.args.tree.now)) (shown framed.expr.now) framed.env _ _ c.outermost-scope.ensures.scope c.evaluate_items-answer.ensures in
    let outcome = (items_in_frame says c.args.tree.now framed c.args.counted.now).outcome in
    tells-handed (telling says c.args.tree.now framed.frame.now) c.in_err-value.field-0.0 c.from_residual.result outcome c.from_residual.ensures.1
    (subst (λ (t : Telling). Tells t (Err c.in_err-value.field-0.0) outcome) (c.outermost-scope.ensures.told framed.frame.now) (c.in_err-value.ensures _ did.outcome))

pub returns-in_err-value-clause-ticks : goal.returns-in_err-value-clause-ticks
returns-in_err-value-clause-ticks g c =
    let says = g.S.Bodies.says c.args.schema.now in
    let framed = c.args.framed_by.now in
    (framed-items _ (frame_scope says.viewing (sight_by says c.args.tree.now)) (shown framed.expr.now) framed.env _ _ c.outermost-scope.ensures.scope c.evaluate_items-answer.ensures).ticks

pub returns-clause-answer : goal.returns-clause-answer
returns-clause-answer g c =
    let says = g.S.Bodies.says c.args.schema.now in
    let framed = c.args.framed_by.now in
    let did = framed-items _ (frame_scope says.viewing (sight_by says c.args.tree.now)) (shown framed.expr.now) framed.env _ _ c.outermost-scope.ensures.scope c.evaluate_items-answer.ensures in
    subst (λ (t : Telling). Tells t (Ok c.in_ok-value.value) (items_in_frame says c.args.tree.now framed c.args.counted.now).outcome) (c.outermost-scope.ensures.told framed.frame.now) (c.in_ok-value.ensures _ did.outcome)

pub returns-clause-counted : goal.returns-clause-counted
returns-clause-counted g c =
    let says = g.S.Bodies.says c.args.schema.now in
    let framed = c.args.framed_by.now in
    let did = framed-items _ (frame_scope says.viewing (sight_by says c.args.tree.now)) (shown framed.expr.now) framed.env _ _ c.outermost-scope.ensures.scope c.evaluate_items-answer.ensures in
    counted-told (telling_by g.S.Bodies.says c.outermost-scope.result framed.frame.now) c.evaluate_items-answer.result c.in_ok-value.value _ c.in_ok-value.ensures did.counted

pub returns-clause-ticks : goal.returns-clause-ticks
returns-clause-ticks g c =
    let says = g.S.Bodies.says c.args.schema.now in
    let framed = c.args.framed_by.now in
    (framed-items _ (frame_scope says.viewing (sight_by says c.args.tree.now)) (shown framed.expr.now) framed.env _ _ c.outermost-scope.ensures.scope c.evaluate_items-answer.ensures).ticks
