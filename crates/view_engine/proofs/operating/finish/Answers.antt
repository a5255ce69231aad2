use Rattle.std.proofs.Common.{sym, ◌∙◌, ap, subst}
use Rattle.snap_core.specs.Value.{null}
use Rattle.snap_core.specs.declared.snap.Snap
use Rattle.snap_core.proofs.Views.{view-Null}
use Rattle.eval_core.specs.Answer.{Answer, plain}
use Rattle.eval_core.specs.Reading.{operate}
use Rattle.answer_ops.specs.View.{answer_of}
use Rattle.answer_ops.proofs.Views.{answer-Plain}
use Rattle.view_engine.specs.declared.step.Use.{Use}
use Rattle.view_engine.specs.Did.{Read}
use Rattle.view_engine.specs.Progress.{scope_of}
use Rattle.view_engine.specs.Steps.{tested, used}
use Rattle.view_engine.proofs.operating.finish.Goals as goal

pub returns-in-Operate : goal.returns-in-Operate
returns-in-Operate g c =
    let s = scope_of g.S.Bodies.says c.args.scope.now in
    subst (λ (u : Use). Read answer_of c.operate.result (tested s (used s u (answer_of c.args.x)))) (sym c.in-Operate.is)
    (subst (λ (y : Answer). Read answer_of c.operate.result (tested s (operate s c.in-Operate.op (answer_of c.args.x) y))) (answer-Plain Snap.Null ∙ ap plain view-Null) c.operate.ensures)

pub returns-in-Ref : goal.returns-in-Ref
returns-in-Ref g c =
    let s = scope_of g.S.Bodies.says c.args.scope.now in
    subst (λ (u : Use). Read answer_of c.bounded_result.result (tested s (used s u (answer_of c.args.x)))) (sym c.in-Ref.is) (c.bounded_result.ensures _ c.reference.ensures)

pub returns-in-Keys : goal.returns-in-Keys
returns-in-Keys g c =
    let s = scope_of g.S.Bodies.says c.args.scope.now in
    subst (λ (u : Use). Read answer_of c.bounded_result-in-Keys.result (tested s (used s u (answer_of c.args.x)))) (sym c.in-Keys.is) (c.bounded_result-in-Keys.ensures _ c.keys.ensures)

pub returns-in-Items : goal.returns-in-Items
returns-in-Items g c =
    let s = scope_of g.S.Bodies.says c.args.scope.now in
    subst (λ (u : Use). Read answer_of c.bounded_result-in-Items.result (tested s (used s u (answer_of c.args.x)))) (sym c.in-Items.is) (c.bounded_result-in-Items.ensures _ c.all_items.ensures)

pub returns-in-Snapshot : goal.returns-in-Snapshot
returns-in-Snapshot g c =
    let s = scope_of g.S.Bodies.says c.args.scope.now in
    subst (λ (u : Use). Read answer_of c.bounded_result-in-Snapshot.result (tested s (used s u (answer_of c.args.x)))) (sym c.in-Snapshot.is) (c.bounded_result-in-Snapshot.ensures _ c.plain_snapshot.ensures)

pub returns-in-Path : goal.returns-in-Path
returns-in-Path g c =
    let s = scope_of g.S.Bodies.says c.args.scope.now in
    subst (λ (u : Use). Read answer_of c.bounded_result-in-Path.result (tested s (used s u (answer_of c.args.x)))) (sym c.in-Path.is) (c.bounded_result-in-Path.ensures _ c.path.ensures)

pub returns-in-Find : goal.returns-in-Find
returns-in-Find g c =
    let s = scope_of g.S.Bodies.says c.args.scope.now in
    subst (λ (u : Use). Read answer_of c.bounded_result-in-Find.result (tested s (used s u (answer_of c.args.x)))) (sym c.in-Find.is) (c.bounded_result-in-Find.ensures _ c.find.ensures)

pub returns-in-Is : goal.returns-in-Is
returns-in-Is g c =
    let s = scope_of g.S.Bodies.says c.args.scope.now in
    subst (λ (u : Use). Read answer_of c.bounded_result-in-Is.result (tested s (used s u (answer_of c.args.x)))) (sym c.in-Is.is) (c.bounded_result-in-Is.ensures _ c.is_of.ensures)
