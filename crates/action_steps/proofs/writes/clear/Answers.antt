use Rattle.std.proofs.Common.{Ok, Err, sym, ap, ◌∙◌}
use Rattle.snap_core.specs.declared.number.NodeNo.{NodeNo}
use Rattle.expr_syntax.specs.Shown.{shown}
use Rattle.answer_ops.specs.View.{answer_of}
use Rattle.answer_ops.specs.declared.value.Value.{Value}
use Rattle.live_tree.specs.Contents.{state}
use Rattle.eval_core.specs.Answer.{Answer}
use Rattle.eval_core.specs.Evaluating.{evaluated}
use Rattle.action_core.specs.Act.{Act}
use Rattle.action_core.specs.Running.{evaluates_in}
use Rattle.action_core.specs.Statements.{removals}
use Rattle.action_steps.specs.Acting.{acting_of, env_of}
use Rattle.action_steps.specs.Doing.{point}
use Rattle.action_steps.proofs.Statements.{at_node, cleared_at, clear-unmet, clear-done, statement-unmet, statement-no-node, statement-done}
use Rattle.action_steps.proofs.Written.{removals-refused}
use Rattle.action_steps.proofs.writes.clear.Goals as goal

pub returns-in_err-x : goal.returns-in_err-x
returns-in_err-x g c = λ n.
    let a = acting_of c.args.acting.now in
    let env = env_of c.args.env.now in
    let parts = evaluates_in a (λ s. evaluated s (shown c.args.on.now) env) in
    let next = at_node a.running.frame (λ x. x) (λ x m. cleared_at a m) in
    statement-unmet {T = Value} answer_of env parts next c.in_err-x.field-0.0 c.from_residual.result _ _ c.from_residual.ensures.1 (c.in_err-x.ensures.did n)

pub returns-in_err-n : goal.returns-in_err-n
returns-in_err-n g c = λ n.
    let a = acting_of c.args.acting.now in
    let env = env_of c.args.env.now in
    let parts = evaluates_in a (λ s. evaluated s (shown c.args.on.now) env) in
    let done : Answer → NodeNo → Act (Unit {0}) = λ x m. cleared_at a m in
    statement-no-node answer_of env a.running.frame parts (λ x. x) done c.in_ok-x.x c.in_err-n.field-0.0 c.from_residual-in_err-n.result _ _ c.from_residual-in_err-n.ensures.1
    (c.in_ok-x.ensures.did n) c.in_err-n.ensures

pub returns-in-Ok : goal.returns-in-Ok
returns-in-Ok g c = λ n.
    let a = acting_of c.args.acting.now in
    let env = env_of c.args.env.now in
    let parts = evaluates_in a (λ s. evaluated s (shown c.args.on.now) env) in
    let done : Answer → NodeNo → Act (Unit {0}) = λ x m. cleared_at a m in
    statement-done answer_of env a.running.frame parts (λ x. x) done c.in_ok-x.x c.in_ok-n.n c.remove_all.result _ _ _ (c.in_ok-x.ensures.did n) c.in_ok-n.ensures
    (clear-done a c.in_ok-n.n c.as_slice.result.now c.remove_all.result (point (state c.args.tree.now) n c.value.new.steps) _ (c.in-Ok.ensures ∙ ap Ok (sym c.as_slice.ensures)) (c.remove_all.ensures n c.value.new.steps))

pub returns : goal.returns
returns g c = λ n.
    let a = acting_of c.args.acting.now in
    let env = env_of c.args.env.now in
    let parts = evaluates_in a (λ s. evaluated s (shown c.args.on.now) env) in
    let done : Answer → NodeNo → Act (Unit {0}) = λ x m. cleared_at a m in
    statement-done answer_of env a.running.frame parts (λ x. x) done c.in_ok-x.x c.in_ok-n.n (Err c.told_in.result) _ _ _ (c.in_ok-x.ensures.did n) c.in_ok-n.ensures
    (clear-unmet a c.in_ok-n.n c.told_in.result (point (state c.args.tree.now) n c.value.new.steps)
    (removals-refused a.running.frame c.in-Err.error c.told_in.result (removals c.in_ok-n.n (state c.args.tree.now).tree) c.told_in.ensures c.in-Err.ensures))
