use Rattle.std.proofs.Common.{Bool}
use Rattle.snap_core.specs.Value.{boolean}
use Rattle.eval_core.specs.Answer.{plain}
use Rattle.eval_core.specs.Evaluating.{truth}
use Rattle.eval_core.specs.Scope.{gives}
use Rattle.answer_ops.specs.View.{answer_of}
use Rattle.view_engine.specs.Progress.{scope_of}
use Rattle.view_engine.proofs.Choices.{truth-tested}
use Rattle.view_engine.proofs.Doing.{read-handed, tested-read-then, tested-read-stop}
use Rattle.view_engine.proofs.operating.judged_truth.Goals as goal

pub returns-in_err-b : goal.returns-in_err-b
returns-in_err-b g c =
    let s = scope_of g.S.Bodies.says c.args.scope.now in
    read-handed answer_of c.in_err-b.field-0.0 c.from_residual.result _ c.from_residual.ensures.1
    (tested-read-stop (λ (b : Bool). b) s c.in_err-b.field-0.0 (truth s (answer_of c.args.x.now)) (λ b. gives (plain (boolean b))) c.in_err-b.ensures)

pub returns : goal.returns
returns g c =
    let s = scope_of g.S.Bodies.says c.args.scope.now in
    tested-read-then (λ (b : Bool). b) s c.in_ok-b.b _ (truth s (answer_of c.args.x.now)) (λ b. gives (plain (boolean b))) c.in_ok-b.ensures (truth-tested s c.in_ok-b.b c.truth_value.result c.truth_value.ensures)
