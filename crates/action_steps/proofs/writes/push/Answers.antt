use Rattle.std.proofs.Common.{ℕ, ap, ◌∙◌, Option}
use Rattle.snap_core.specs.declared.number.NodeNo.{NodeNo}
use Rattle.expr_syntax.specs.Shown.{shown}
use Rattle.answer_ops.specs.View.{answer_of}
use Rattle.answer_writing.specs.Giving.{inserts}
use Rattle.live_tree.specs.Contents.{state}
use Rattle.tree_core.specs.Recorded.{tree_in}
use Rattle.eval_core.specs.Answer.{Answer}
use Rattle.eval_core.specs.Evaluating.{evaluated}
use Rattle.action_core.specs.Act.{Act}
use Rattle.action_core.specs.Behaving.{writes}
use Rattle.action_core.specs.Running.{two, evaluates_in}
use Rattle.action_core.specs.Statements as core
use Rattle.action_steps.specs.Acting.{acting_of, env_of}
use Rattle.action_steps.specs.Parts.{both_of}
use Rattle.action_steps.specs.declared.parts.TwoParts.{TwoParts}
use Rattle.action_steps.proofs.Statements.{at_node, statement-unmet, statement-no-node, statement-lost, statement-done, gives-plain, pushed-as}
use Rattle.std.specs.Option.{unwrap_or}
use Rattle.action_steps.proofs.writes.push.Goals as goal

pub returns-in_err-parts : goal.returns-in_err-parts
returns-in_err-parts g c = λ n.
    let a = acting_of c.args.acting.now in
    let env = env_of c.args.env.now in
    let parts = evaluates_in a (λ s. two (evaluated s (shown c.args.on.now) env) (evaluated s (shown c.args.to.now) env)) in
    let done : Answer × Answer → NodeNo → Act (Unit {0}) = λ xs n. writes a.running.frame (core.pushed a.behaving.types a.running.nodes n xs.1) in
    let next = at_node a.running.frame (λ xs. xs.0) done in
    statement-unmet {T = TwoParts} both_of env parts next c.in_err-parts.field-0.0 c.from_residual.result _ _ c.from_residual.ensures.1 (c.in_err-parts.ensures.did n)

pub returns-in_err-n : goal.returns-in_err-n
returns-in_err-n g c = λ n.
    let a = acting_of c.args.acting.now in
    let env = env_of c.args.env.now in
    let parts = evaluates_in a (λ s. two (evaluated s (shown c.args.on.now) env) (evaluated s (shown c.args.to.now) env)) in
    let done : Answer × Answer → NodeNo → Act (Unit {0}) = λ xs n. writes a.running.frame (core.pushed a.behaving.types a.running.nodes n xs.1) in
    let next = at_node a.running.frame (λ xs. xs.0) done in
    statement-no-node both_of env a.running.frame parts (λ xs. xs.0) done c.in_ok-parts.parts c.in_err-n.field-0.0 c.from_residual-in_err-n.result _ _ c.from_residual-in_err-n.ensures.1
    (c.in_ok-parts.ensures.did n) c.in_err-n.ensures

pub returns-in_err-naming : goal.returns-in_err-naming
returns-in_err-naming g c = λ n.
    let a = acting_of c.args.acting.now in
    let env = env_of c.args.env.now in
    let parts = evaluates_in a (λ s. two (evaluated s (shown c.args.on.now) env) (evaluated s (shown c.args.to.now) env)) in
    let done : Answer × Answer → NodeNo → Act (Unit {0}) = λ xs n. writes a.running.frame (core.pushed a.behaving.types a.running.nodes n xs.1) in
    let next = at_node a.running.frame (λ xs. xs.0) done in
    statement-lost both_of env parts next c.in_ok-parts.parts c.from_residual-in_err-naming.result _ _ c.from_residual-in_err-naming.ensures.1 (c.in_ok-parts.ensures.did n)

pub write_named-requires : goal.write_named-requires
write_named-requires g c = gives-plain _ (inserts (answer_of c.in_ok-parts.parts.second)) (ap (λ (w : core.Naming). w.giving) c.in_ok-naming.ensures) c.in_ok-parts.ensures.plain

pub returns : goal.returns
returns g c = λ n.
    let a = acting_of c.args.acting.now in
    let env = env_of c.args.env.now in
    let parts = evaluates_in a (λ s. two (evaluated s (shown c.args.on.now) env) (evaluated s (shown c.args.to.now) env)) in
    let done : Answer × Answer → NodeNo → Act (Unit {0}) = λ xs n. writes a.running.frame (core.pushed a.behaving.types a.running.nodes n xs.1) in
    let next = at_node a.running.frame (λ xs. xs.0) done in
    let tree = tree_in (state c.args.tree.now) in
    statement-done both_of env a.running.frame parts (λ xs. xs.0) done c.in_ok-parts.parts c.in_ok-n.n c.write_named.result _ _ _ (c.in_ok-parts.ensures.did n) c.in_ok-n.ensures
    (c.write_named.ensures (core.pushed a.behaving.types a.running.nodes c.in_ok-n.n (answer_of c.in_ok-parts.parts.second)) n _
    (pushed-as a.behaving.types a.running.nodes c.in_ok-n.n (answer_of c.in_ok-parts.parts.second) _ tree _ c.in_ok-naming.ensures (c.unwrap_or-size.ensures ∙ ap (λ (o : Option ℕ). unwrap_or o 0) c.len.ensures)))
