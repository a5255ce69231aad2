use Rattle.std.proofs.Common.{ap, refl}
use Rattle.expr_core.specs.Schema.{action_at}
use Rattle.answer_ops.specs.View.{answers_of}
use Rattle.live_tree.specs.Contents.{state}
use Rattle.action_steps.specs.Acting.{behaving_of, callee_of}
use Rattle.action_steps.specs.declared.binding.Called.{Called}
use Rattle.action_steps.proofs.Starting.{begins-handed}
use Rattle.action_steps.proofs.beginning.begin.Goals as goal

pub returns-in_err-env-clause-outcome : goal.returns-in_err-env-clause-outcome
returns-in_err-env-clause-outcome c =
    let s = c.args.schema.now in
    let called : Called = record { node = c.args.callee.now.node; params = c.params.result; args = c.as_slice.result } in
    begins-handed (behaving_of s) c.args.caller.now (callee_of c.args.callee.now) (state c.args.tree.now).tree c.in-Some.kind (action_at s c.in-Some-action_under.action) called
    c.in_err-env.field-0.0 c.from_residual-in_err-env.result c.in-Some.ensures c.in-Some-action_under.ensures.action c.params.ensures (ap answers_of c.as_slice.ensures) refl
    c.from_residual-in_err-env.ensures.1 (rw (c.types.ensures, c.in_ok-frame.ensures) at c.in_err-env.ensures.outcome)
