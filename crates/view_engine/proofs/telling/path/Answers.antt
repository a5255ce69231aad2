use Rattle.std.proofs.Common.{Ok, refl, sym, ◌∙◌, ap, subst}
use Rattle.snap_core.specs.declared.snap.Snap
use Rattle.eval_core.specs.Reading.{path_got}
use Rattle.answer_ops.specs.View.{answer_of}
use Rattle.answer_ops.specs.declared.value.Value
use Rattle.answer_ops.proofs.Views.{answer-Node}
use Rattle.view_engine.specs.Did.{Read}
use Rattle.view_engine.specs.Progress.{scope_of, whole_in}
use Rattle.view_engine.proofs.LeavesNodes.{path-read}
use Rattle.view_engine.proofs.telling.path.Goals as goal

pub returns-in-Ok : goal.returns-in-Ok
returns-in-Ok g c =
    let s = scope_of g.S.Bodies.says c.args.scope.now in
    let shown = c.in_ok-print-in-Ok.field-0 in
    subst (λ y. Read answer_of (Ok (Value.Plain (Snap.Text shown))) (path_got s y)) (sym (ap answer_of c.in-Node.is ∙ answer-Node c.in-Node.n))
    (path-read s (whole_in g.S.Bodies.says c.args.scope.now) c.in-Node.n c.in-Ok.path shown refl c.in-Ok.ensures c.in_ok-print-in-Ok.ensures)
