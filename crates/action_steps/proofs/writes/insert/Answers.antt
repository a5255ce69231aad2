use Rattle.std.proofs.Common.{sym, ap}
use Rattle.snap_core.specs.declared.number.NodeNo.{NodeNo}
use Rattle.expr_syntax.specs.Shown.{shown}
use Rattle.answer_ops.specs.View.{answer_of}
use Rattle.answer_writing.specs.Giving.{inserts}
use Rattle.live_tree.specs.Contents.{state}
use Rattle.tree_core.specs.Recorded.{tree_in}
use Rattle.eval_core.specs.Answer.{Answer}
use Rattle.eval_core.specs.Evaluating.{evaluated}
use Rattle.action_core.specs.Act.{Act}
use Rattle.action_core.specs.Running.{three, evaluates_in, writes_named}
use Rattle.action_core.specs.Statements as core
use Rattle.action_steps.specs.Acting.{acting_of, env_of}
use Rattle.action_steps.specs.Parts.{three_of}
use Rattle.action_steps.specs.declared.parts.ThreeParts.{ThreeParts}
use Rattle.action_steps.proofs.Statements.{at_node, statement-unmet, statement-no-node, statement-lost, statement-done, gives-plain}
use Rattle.action_steps.proofs.writes.insert.Goals as goal

pub returns-in_err-parts : goal.returns-in_err-parts
returns-in_err-parts g c = λ n.
    let a = acting_of c.args.acting.now in
    let env = env_of c.args.env.now in
    let parts = evaluates_in a (λ s. three (evaluated s (shown c.args.on.now) env) (evaluated s (shown c.args.index.now) env) (evaluated s (shown c.args.to.now) env)) in
    let done : Answer × Answer × Answer → NodeNo → Act (Unit {0}) = λ xs n. writes_named a (core.item_inserted n xs.1 xs.2) in
    let next = at_node a.running.frame (λ xs. xs.0) done in
    statement-unmet {T = ThreeParts} three_of env parts next c.in_err-parts.field-0.0 c.from_residual.result _ _ c.from_residual.ensures.1 (c.in_err-parts.ensures.did n)

pub returns-in_err-n : goal.returns-in_err-n
returns-in_err-n g c = λ n.
    let a = acting_of c.args.acting.now in
    let env = env_of c.args.env.now in
    let parts = evaluates_in a (λ s. three (evaluated s (shown c.args.on.now) env) (evaluated s (shown c.args.index.now) env) (evaluated s (shown c.args.to.now) env)) in
    let done : Answer × Answer × Answer → NodeNo → Act (Unit {0}) = λ xs n. writes_named a (core.item_inserted n xs.1 xs.2) in
    let next = at_node a.running.frame (λ xs. xs.0) done in
    statement-no-node three_of env a.running.frame parts (λ xs. xs.0) done c.in_ok-parts.parts c.in_err-n.field-0.0 c.from_residual-in_err-n.result _ _ c.from_residual-in_err-n.ensures.1
    (c.in_ok-parts.ensures.did n) c.in_err-n.ensures

pub returns-in_err-naming : goal.returns-in_err-naming
returns-in_err-naming g c = λ n.
    let a = acting_of c.args.acting.now in
    let env = env_of c.args.env.now in
    let parts = evaluates_in a (λ s. three (evaluated s (shown c.args.on.now) env) (evaluated s (shown c.args.index.now) env) (evaluated s (shown c.args.to.now) env)) in
    let done : Answer × Answer × Answer → NodeNo → Act (Unit {0}) = λ xs n. writes_named a (core.item_inserted n xs.1 xs.2) in
    let next = at_node a.running.frame (λ xs. xs.0) done in
    statement-lost three_of env parts next c.in_ok-parts.parts c.from_residual-in_err-naming.result _ _ c.from_residual-in_err-naming.ensures.1 (c.in_ok-parts.ensures.did n)

pub write_named-requires : goal.write_named-requires
write_named-requires g c = gives-plain _ (inserts (answer_of c.in_ok-parts.parts.third)) (ap (λ (w : core.Naming). w.giving) c.in_ok-naming.ensures) c.in_ok-parts.ensures.plain

pub returns : goal.returns
returns g c = λ n.
    let a = acting_of c.args.acting.now in
    let env = env_of c.args.env.now in
    let parts = evaluates_in a (λ s. three (evaluated s (shown c.args.on.now) env) (evaluated s (shown c.args.index.now) env) (evaluated s (shown c.args.to.now) env)) in
    let done : Answer × Answer × Answer → NodeNo → Act (Unit {0}) = λ xs n. writes_named a (core.item_inserted n xs.1 xs.2) in
    let next = at_node a.running.frame (λ xs. xs.0) done in
    let tree = tree_in (state c.args.tree.now) in
    statement-done three_of env a.running.frame parts (λ xs. xs.0) done c.in_ok-parts.parts c.in_ok-n.n c.write_named.result _ _ _ (c.in_ok-parts.ensures.did n) c.in_ok-n.ensures
    (c.write_named.ensures (core.named_written a.behaving.types a.running.nodes (core.item_inserted c.in_ok-n.n (three_of c.in_ok-parts.parts).1 (three_of c.in_ok-parts.parts).2)) n _
    (ap (λ (w : core.Naming). core.named_written a.behaving.types a.running.nodes w tree) (sym c.in_ok-naming.ensures)))
