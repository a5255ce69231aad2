use Rattle.std.proofs.Common.{refl}
use Rattle.snap_core.specs.View.{view}
use Rattle.eval_core.specs.Answer.{plain}
use Rattle.eval_core.specs.Making.{snapshot_of}
use Rattle.eval_core.specs.Scope.{gives}
use Rattle.answer_ops.specs.View.{answer_of}
use Rattle.answer_ops.specs.declared.value.Value.{Value}
use Rattle.view_engine.specs.Progress.{scope_of}
use Rattle.view_engine.proofs.Doing.{given-plain, read-handed, read-then, read-stop}
use Rattle.view_engine.proofs.operating.plain_snapshot.Goals as goal

pub returns-in_err-value : goal.returns-in_err-value
returns-in_err-value g c =
    let halt = c.in_err-value.field-0.0 in
    read-handed answer_of halt c.from_residual.result _ c.from_residual.ensures.1
    (read-stop {U = Value} view answer_of halt (snapshot_of (scope_of g.S.Bodies.says c.args.scope.now) (answer_of c.args.x.now)) (λ v. gives (plain v)) c.in_err-value.ensures)

pub returns : goal.returns
returns g c =
    read-then view answer_of c.in_ok-value.value _ (snapshot_of (scope_of g.S.Bodies.says c.args.scope.now) (answer_of c.args.x.now)) (λ v. gives (plain v)) c.in_ok-value.ensures
    (given-plain c.in_ok-value.value (view c.in_ok-value.value) refl)
