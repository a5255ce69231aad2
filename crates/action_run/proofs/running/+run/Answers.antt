use Rattle.std.specs.Prelude.{is_err}
use Rattle.eval_core.specs.Scope.{Env}
use Rattle.std.proofs.Common.{rules, ◌≡◌, ◌∷◌, ◌+◌, ◌&&◌, suc, All, map, drop, Ok, Err, false, refl, sym, ◌∙◌, ap, subst, arith, drop_of_length-le}
use Rattle.expr_syntax.specs.Shown.{shown, expressions}
use Rattle.expr_syntax.specs.ShownStatements.{statements, stmt_shown, block_shown}
use Rattle.expr_syntax.specs.Stmts.{block-parts, stmt-Set, stmt-Put, stmt-Push, stmt-Insert, stmt-Replace, stmt-Drop, stmt-Clear, stmt-Apply, stmt-Let, stmt-If, stmt-Each, stmt-Call, stmt-Try, stmt-Throw}
use Rattle.expr_syntax.specs.Syntax as syntax
use Rattle.answer_ops.specs.View.{answer_of, answers_of}
use Rattle.live_tree.specs.Contents.{state}
use Rattle.plain_answers.specs.Plainness.{IsPlainAnswer, IsPlainEnv, HasPlainConstants}
use Rattle.plain_answers.specs.EachExpression.{HoldsInBlock}
use Rattle.eval_core.specs.Answer.{Answer}
use Rattle.action_core.specs.Running.{ran_block, one_of, over_each, calls}
use Rattle.action_steps.specs.Doing.{point}
use Rattle.action_steps.specs.Acting.{behaving_of, running_of, acting_of, callee_of, begun_of, layer_of, env_of}
use Rattle.action_steps.proofs.Doing.{acts-then, acts-stop, acts-handed, acts-refuses, acts-node, acts-no-node}
use Rattle.action_run.proofs.Calls.{acts-out-at, as-shown, tried-again, tried-once, begins-outcome, call-unbegun, call-crowded, call-begun, begun-as, no-room}
use Rattle.action_run.proofs.Layered.{and-true, and-false-left, and-false-right, surround-stays, surround-back}
use Rattle.action_run.proofs.Sequences.{acts-keeping, acts-one, acts-other, statement-left, statement-uncounted, statement-refused, none-left, turn-left, turn-refused, no-turn-left, statements-opened, values-opened, first_fine, rest-fine, kept-on, bound-as, env-told, env-bound, block-did, turns-left, call-named}
use Rattle.action_run.specs.Surrounding.{running_by}
use Rattle.action_run.proofs.running.+run.Goals as goal
use Rattle.action_run.proofs.running.+run.Goals.{surround-else-is_atomic-via-then-is_atomic+else-is_err, surround-else-is_atomic-via-else-is_atomic}

pub call-returns-in_err-frame : goal.call-returns-in_err-frame
call-returns-in_err-frame g t c =
    let a = c.args.acting.now in
    acts-handed (λ u. u) c.in_err-frame.field-0.0 c.from_residual.result _ _ _ c.from_residual.ensures.1
    (call-unbegun begun_of (behaving_of a.schema.now) a.room (running_of a) (callee_of c.args.callee.now) c.in_err-frame.field-0.0 _ (begins-outcome (Err c.in_err-frame.field-0.0) _ c.in_err-frame.ensures.outcome))

pub call-returns-in_err-layers : goal.call-returns-in_err-layers
call-returns-in_err-layers g t c = acts-out-at (λ u. u) c.from_residual-in_err-layers.result _ _ c.from_residual-in_err-layers.ensures.1

pub call-returns-in_err-running : goal.call-returns-in_err-running
call-returns-in_err-running g t c = acts-out-at (λ u. u) c.from_residual-in_err-running.result _ _ c.from_residual-in_err-running.ensures.1

pub call-returns-in_default : goal.call-returns-in_default
call-returns-in_default g t c =
    let a = c.args.acting.now in
    call-crowded begun_of (behaving_of a.schema.now) a.room (running_of a) (callee_of c.args.callee.now) c.in_ok-frame.field-0 c.refused.result _ (no-room a.room c.in_default.ensures)
    (begins-outcome (Ok c.in_ok-frame.field-0) _ c.in_ok-frame.ensures.outcome) c.refused.ensures

pub call-returns : goal.call-returns
call-returns g t c =
    let a = c.args.acting.now in
    let w = c.within-within.result in
    let is : c.args.acting.now.room ≡ suc c.in-Some.room = omega (arith, c.in-Some.ensures.0, c.in-Some.ensures.1) in
    call-begun begun_of (behaving_of a.schema.now) a.room c.in-Some.room (running_of a) (callee_of c.args.callee.now) c.in_ok-frame.field-0 (map layer_of c.as_slice-2.result.now) c.as_slice.result.now c.surround.result _ _
    is (begins-outcome (Ok c.in_ok-frame.field-0) _ c.in_ok-frame.ensures.outcome) (ap (map layer_of) c.as_slice-2.ensures ∙ c.in_ok-layers.ensures) (c.as_slice.ensures ∙ c.in_ok-running.ensures)
    (begun-as (behaving_of a.schema.now) (behaving_of w.schema.now) (map layer_of c.as_slice-2.result.now) c.in_ok-frame.field-0.frame w.frame.now (running_by (behaving_of a.schema.now) c.in-Some.room c.as_slice.result.now c.in_ok-frame.field-0.frame) (acting_of w)
    (block_shown c.in_ok-frame.field-0.body.now) (block_shown c.in_ok-frame.field-0.body.now) (env_of c.in_ok-frame.field-0.env) (env_of c.in_ok-frame.field-0.env) c.surround.result
    (point (state c.args.tree.now) c.args.counted.now c.args.steps.now) (point (state c.surround.new.tree) c.surround.new.counted c.surround.new.steps)
    c.within-within.ensures.schema c.within-within.ensures.frame
    c.within-within.ensures.acting
    refl refl c.surround.ensures)

pub call_on-returns-in_err-parts : goal.call_on-returns-in_err-parts
call_on-returns-in_err-parts g t c = record {
  did = acts-handed _ c.in_err-parts.field-0.0 c.from_residual.result _ _ _ c.from_residual.ensures.1
      (acts-keeping (env_of c.args.env.now) (Err c.in_err-parts.field-0.0) _ _ _
      (acts-stop _ (λ u. u) c.in_err-parts.field-0.0 _ (λ (xs : Answer × _). calls (acting_of c.args.acting.now) xs.0 c.args.name.now xs.1) _ _ (c.in_err-parts.ensures.did c.args.counted.now)));
}

pub call_on-returns-in_err-node : goal.call_on-returns-in_err-node
call_on-returns-in_err-node g t c = record {
  did = acts-handed _ c.in_err-node.field-0.0 c.from_residual-in_err-node.result _ _ _ c.from_residual-in_err-node.ensures.1
      (acts-keeping (env_of c.args.env.now) (Err c.in_err-node.field-0.0) _ _ _
      (acts-then _ (λ u. u) c.in_ok-parts.parts (Err c.in_err-node.field-0.0) _ (λ (xs : Answer × _). calls (acting_of c.args.acting.now) xs.0 c.args.name.now xs.1) _ _ _ (c.in_ok-parts.ensures.did c.args.counted.now)
      (acts-no-node (λ u. u) c.in_err-node.field-0.0 c.args.acting.now.frame.now (answer_of c.in_ok-parts.parts.on) _ _ c.in_err-node.ensures)));
}

pub call_on-returns : goal.call_on-returns
call_on-returns g t c = record {
  did = acts-keeping (env_of c.args.env.now) c.call.result _ _ _
      (acts-then _ (λ u. u) c.in_ok-parts.parts c.call.result _ (λ (xs : Answer × _). calls (acting_of c.args.acting.now) xs.0 c.args.name.now xs.1) _ _ _ (c.in_ok-parts.ensures.did c.args.counted.now)
      (acts-node (λ u. u) c.call.result c.args.acting.now.frame.now (answer_of c.in_ok-parts.parts.on) c.in_ok-node.node _ _ _ c.in_ok-node.ensures
      (call-named (acting_of c.args.acting.now) c.in_ok-node.node c.args.name.now c.text.result.now (answers_of c.in_ok-parts.parts.args) c.call.result _ _ c.text.ensures.text c.call.ensures)));
}

pub choose-returns-in_err-holds-clause-did : goal.choose-returns-in_err-holds-clause-did
choose-returns-in_err-holds-clause-did g t c =
    acts-handed _ c.in_err-holds.field-0.0 c.from_residual.result _ _ _ c.from_residual.ensures.1
    (acts-keeping (env_of c.args.env.now) (Err c.in_err-holds.field-0.0) _ _ _
    (acts-stop (λ b. b) (λ u. u) c.in_err-holds.field-0.0 _ (one_of _ _) _ _ (c.in_err-holds.ensures c.args.counted.now)))

pub choose-returns-then-holds-clause-did : goal.choose-returns-then-holds-clause-did
choose-returns-then-holds-clause-did g t c =
    acts-keeping (env_of c.args.env.now) c.run_block.result _ _ _
    (acts-then (λ b. b) (λ u. u) c.in_ok-holds.holds c.run_block.result _ (one_of _ _) _ _ _ (c.in_ok-holds.ensures c.args.counted.now)
    (acts-one _ _ c.in_ok-holds.holds c.run_block.result _ _ c.if-holds.true c.run_block.ensures.did))

pub choose-returns-else-holds-clause-did : goal.choose-returns-else-holds-clause-did
choose-returns-else-holds-clause-did g t c =
    acts-keeping (env_of c.args.env.now) c.run_block-else-holds.result _ _ _
    (acts-then (λ b. b) (λ u. u) c.in_ok-holds.holds c.run_block-else-holds.result _ (one_of _ _) _ _ _ (c.in_ok-holds.ensures c.args.counted.now)
    (acts-other _ _ c.in_ok-holds.holds c.run_block-else-holds.result _ _ c.if-holds.false c.run_block-else-holds.ensures.did))

pub each-returns-in_err-values-clause-did : goal.each-returns-in_err-values-clause-did
each-returns-in_err-values-clause-did g t c =
    acts-handed _ c.in_err-values.field-0.0 c.from_residual.result _ _ _ c.from_residual.ensures.1
    (acts-keeping (env_of c.args.env.now) (Err c.in_err-values.field-0.0) _ _ _
    (acts-stop (λ xs. map answer_of xs) (λ u. u) c.in_err-values.field-0.0 _ (over_each _) _ _ (c.in_err-values.ensures.did c.args.counted.now)))

pub each-loop-value-init : goal.each-loop-value-init
each-loop-value-init g t c =
    let m = point (state c.args.tree.now) c.args.counted.now c.items.new.steps in
    let body = λ (y : Answer). ran_block (acting_of c.args.acting.now) (block_shown c.args.body.now) ((c.args.name.now, y) ∷ env_of c.args.env.now) in
    record {
      left = turns-left (λ u. env_of c.args.env.now) _ body c.as_slice-value-items.result.now c.in_ok-values.values _ m c.as_slice-value-items.ensures
          (λ r q rest. acts-keeping (env_of c.args.env.now) r _ _ q (acts-then (λ xs. map answer_of xs) (λ u. u) c.in_ok-values.values r _ (over_each body) _ m q (c.in_ok-values.ensures.did c.args.counted.now) rest));
      plain = subst (λ xs. All IsPlainAnswer (map answer_of xs)) (sym c.as_slice-value-items.ensures) c.in_ok-values.ensures.plain;
      bound = c.requires.bound;
      env = refl;
      rises = omega arith;
    }

pub each-run_turn-requires : goal.each-run_turn-requires
each-run_turn-requires g t c κs within =
    (search rules, (within, (c.requires.body, (first_fine IsPlainAnswer c.as_slice-value-items.result.now c.loop-value.value-index c.value-item.result c.loop-value-test.true c.value-item.is c.loop-value.invariant.plain, c.loop-value.invariant.bound))))

pub each-returns-in_err-run_turn-clause-did : goal.each-returns-in_err-run_turn-clause-did
each-returns-in_err-run_turn-clause-did g t c =
    let i = c.loop-value.value-index in
    let items = c.as_slice-value-items.result.now in
    let opened = values-opened items i c.value-item.result c.loop-value-test.true c.value-item.is in
    let body = λ (y : Answer). ran_block (acting_of c.args.acting.now) (block_shown c.args.body.now) ((c.args.name.now, y) ∷ env_of c.args.env.now) in
    let one = λ (env : Env). ran_block (acting_of c.args.acting.now) (block_shown c.args.body.now) ((c.args.name.now, answer_of c.value-item.result) ∷ env) in
    acts-handed (λ u. env_of c.args.env.now) c.in_err-run_turn.field-0.0 c.from_residual-in_err-run_turn.result _ _ _ c.from_residual-in_err-run_turn.ensures.1
    (turn-refused (λ u. env_of c.args.env.now) _ body (map answer_of (drop i items)) (answer_of c.value-item.result) (map answer_of (drop (i + 1) items)) c.in_err-run_turn.field-0.0 _ _ _ opened c.loop-value.invariant.left
    (bound-as one c.loop-value.env c.args.env.now (Err c.in_err-run_turn.field-0.0) _ _ c.loop-value.invariant.env c.in_err-run_turn.ensures.did))

pub each-loop-value-preserved : goal.each-loop-value-preserved
each-loop-value-preserved g t c =
    let i = c.loop-value.value-index in
    let items = c.as_slice-value-items.result.now in
    let opened = values-opened items i c.value-item.result c.loop-value-test.true c.value-item.is in
    let body = λ (y : Answer). ran_block (acting_of c.args.acting.now) (block_shown c.args.body.now) ((c.args.name.now, y) ∷ env_of c.args.env.now) in
    let one = λ (env : Env). ran_block (acting_of c.args.acting.now) (block_shown c.args.body.now) ((c.args.name.now, answer_of c.value-item.result) ∷ env) in
    record {
      left = turn-left (λ u. env_of c.args.env.now) _ body (map answer_of (drop i items)) (answer_of c.value-item.result) (map answer_of (drop (i + 1) items)) tt _ _ _ opened c.loop-value.invariant.left
          (bound-as one c.loop-value.env c.args.env.now (Ok tt) _ _ c.loop-value.invariant.env c.in_ok-run_turn.ensures.did);
      plain = rest-fine IsPlainAnswer items i c.value-item.result c.loop-value-test.true c.value-item.is c.loop-value.invariant.plain;
      bound = subst (λ env. IsPlainEnv (env_of env)) (sym c.in_ok-run_turn.ensures.env) c.loop-value.invariant.bound;
      env = c.in_ok-run_turn.ensures.env ∙ c.loop-value.invariant.env;
      rises = let h = c.loop-value.invariant.rises in let m = c.in_ok-run_turn.ensures.did.rises in omega (arith, h, m);
    }

pub each-returns-clause-did : goal.each-returns-clause-did
each-returns-clause-did g t c =
    let i = c.loop-value.value-index in
    let items = c.as_slice-value-items.result.now in
    let body = λ (y : Answer). ran_block (acting_of c.args.acting.now) (block_shown c.args.body.now) ((c.args.name.now, y) ∷ env_of c.args.env.now) in
    no-turn-left (λ u. env_of c.args.env.now) _ body (map answer_of (drop i items)) tt _ _ (ap (λ ys. map answer_of ys) (drop_of_length-le items {i = i} (omega (arith, c.loop-value-test.false)))) c.loop-value.invariant.left

pub run_block-returns-clause-did : goal.run_block-returns-clause-did
run_block-returns-clause-did g t c =
    block-did (acting_of c.args.acting.now) (block_shown c.args.block.now) (statements (map stmt_shown c.as_slice.result.now)) (env_of c.args.env.now) c.run_statements-result.result _ _
    (block-parts c.args.block.now ∙ ap (λ xs. statements (map stmt_shown xs)) (sym c.as_slice.ensures)) c.run_statements-result.ensures.did

pub run_statement-returns-in-Set-clause-did : goal.run_statement-returns-in-Set-clause-did
run_statement-returns-in-Set-clause-did g t c =
    as-shown (λ (u : Unit {0}). env_of c.args.env.now) c.set.result (acting_of c.args.acting.now) (syntax.set (shown c.deref.result.now) c.in-Set.name (shown c.deref-in-Set.result.now)) c.args.statement.now (env_of c.args.env.now) _ _
    (ap stmt_shown c.in-Set.is ∙ stmt-Set c.in-Set.on c.in-Set.name c.in-Set.to ∙ (let h0 = c.deref.ensures in let h1 = c.deref-in-Set.ensures in cc)) (c.set.ensures c.args.counted.now)

pub run_statement-returns-in-Put-clause-did : goal.run_statement-returns-in-Put-clause-did
run_statement-returns-in-Put-clause-did g t c =
    as-shown (λ (u : Unit {0}). env_of c.args.env.now) c.put.result (acting_of c.args.acting.now) (syntax.put (shown c.deref-in-Put.result.now) (shown c.deref-in-Put-2.result.now) (shown c.deref-in-Put-3.result.now)) c.args.statement.now (env_of c.args.env.now) _ _
    (ap stmt_shown c.in-Put.is ∙ stmt-Put c.in-Put.on c.in-Put.key c.in-Put.to ∙ (let h0 = c.deref-in-Put.ensures in let h1 = c.deref-in-Put-2.ensures in let h2 = c.deref-in-Put-3.ensures in cc)) (c.put.ensures c.args.counted.now)

pub run_statement-returns-in-Push-clause-did : goal.run_statement-returns-in-Push-clause-did
run_statement-returns-in-Push-clause-did g t c =
    as-shown (λ (u : Unit {0}). env_of c.args.env.now) c.push.result (acting_of c.args.acting.now) (syntax.push (shown c.deref-in-Push.result.now) (shown c.deref-in-Push-2.result.now)) c.args.statement.now (env_of c.args.env.now) _ _
    (ap stmt_shown c.in-Push.is ∙ stmt-Push c.in-Push.on c.in-Push.to ∙ (let h0 = c.deref-in-Push.ensures in let h1 = c.deref-in-Push-2.ensures in cc)) (c.push.ensures c.args.counted.now)

pub run_statement-returns-in-Insert-clause-did : goal.run_statement-returns-in-Insert-clause-did
run_statement-returns-in-Insert-clause-did g t c =
    as-shown (λ (u : Unit {0}). env_of c.args.env.now) c.insert.result (acting_of c.args.acting.now) (syntax.insert (shown c.deref-in-Insert.result.now) (shown c.deref-in-Insert-2.result.now) (shown c.deref-in-Insert-3.result.now)) c.args.statement.now (env_of c.args.env.now) _ _
    (ap stmt_shown c.in-Insert.is ∙ stmt-Insert c.in-Insert.on c.in-Insert.index c.in-Insert.to ∙ (let h0 = c.deref-in-Insert.ensures in let h1 = c.deref-in-Insert-2.ensures in let h2 = c.deref-in-Insert-3.ensures in cc)) (c.insert.ensures c.args.counted.now)

pub run_statement-returns-in-Replace-clause-did : goal.run_statement-returns-in-Replace-clause-did
run_statement-returns-in-Replace-clause-did g t c =
    as-shown (λ (u : Unit {0}). env_of c.args.env.now) c.replace.result (acting_of c.args.acting.now) (syntax.replace (shown c.deref-in-Replace.result.now) (shown c.deref-in-Replace-2.result.now) (shown c.deref-in-Replace-3.result.now)) c.args.statement.now (env_of c.args.env.now) _ _
    (ap stmt_shown c.in-Replace.is ∙ stmt-Replace c.in-Replace.on c.in-Replace.index c.in-Replace.to ∙ (let h0 = c.deref-in-Replace.ensures in let h1 = c.deref-in-Replace-2.ensures in let h2 = c.deref-in-Replace-3.ensures in cc)) (c.replace.ensures c.args.counted.now)

pub run_statement-returns-in-Drop-clause-did : goal.run_statement-returns-in-Drop-clause-did
run_statement-returns-in-Drop-clause-did g t c =
    as-shown (λ (u : Unit {0}). env_of c.args.env.now) c.drop.result (acting_of c.args.acting.now) (syntax.drop (shown c.deref-in-Drop.result.now) (shown c.deref-in-Drop-2.result.now)) c.args.statement.now (env_of c.args.env.now) _ _
    (ap stmt_shown c.in-Drop.is ∙ stmt-Drop c.in-Drop.on c.in-Drop.key ∙ (let h0 = c.deref-in-Drop.ensures in let h1 = c.deref-in-Drop-2.ensures in cc)) (c.drop.ensures c.args.counted.now)

pub run_statement-returns-in-Clear-clause-did : goal.run_statement-returns-in-Clear-clause-did
run_statement-returns-in-Clear-clause-did g t c =
    as-shown (λ (u : Unit {0}). env_of c.args.env.now) c.clear.result (acting_of c.args.acting.now) (syntax.clear (shown c.deref-in-Clear.result.now)) c.args.statement.now (env_of c.args.env.now) _ _
    (ap stmt_shown c.in-Clear.is ∙ stmt-Clear c.in-Clear.on ∙ (let h0 = c.deref-in-Clear.ensures in cc)) (c.clear.ensures c.args.counted.now)

pub run_statement-returns-in-Apply-clause-did : goal.run_statement-returns-in-Apply-clause-did
run_statement-returns-in-Apply-clause-did g t c =
    as-shown (λ (u : Unit {0}). env_of c.args.env.now) c.apply.result (acting_of c.args.acting.now) (syntax.apply (shown c.deref-in-Apply.result.now) (shown c.deref-in-Apply-2.result.now)) c.args.statement.now (env_of c.args.env.now) _ _
    (ap stmt_shown c.in-Apply.is ∙ stmt-Apply c.in-Apply.on c.in-Apply.to ∙ (let h0 = c.deref-in-Apply.ensures in let h1 = c.deref-in-Apply-2.ensures in cc)) (c.apply.ensures c.args.counted.now)

pub run_statement-returns-in-Let-clause-did : goal.run_statement-returns-in-Let-clause-did
run_statement-returns-in-Let-clause-did g t c =
    as-shown (λ (u : Unit {0}). env_of c.bind_value.new.env) c.bind_value.result (acting_of c.args.acting.now) (syntax.Statement.bind c.in-Let.name (shown c.deref-in-Let.result.now)) c.args.statement.now (env_of c.args.env.now) _ _
    (ap stmt_shown c.in-Let.is ∙ stmt-Let c.in-Let.name c.in-Let.e ∙ (let h0 = c.deref-in-Let.ensures in cc)) (c.bind_value.ensures.did c.args.counted.now)

pub run_statement-returns-in-If-clause-did : goal.run_statement-returns-in-If-clause-did
run_statement-returns-in-If-clause-did g t c =
    env-told c.choose.new.env c.args.env.now c.choose.result _ _ _ c.choose.ensures.env
    (as-shown (λ (u : Unit {0}). env_of c.args.env.now) c.choose.result (acting_of c.args.acting.now) (syntax.Statement.choice (shown c.deref-in-If.result.now) (block_shown c.in-If.yes) (block_shown c.in-If.no)) c.args.statement.now (env_of c.args.env.now) _ _
    (ap stmt_shown c.in-If.is ∙ stmt-If c.in-If.c c.in-If.yes c.in-If.no ∙ (let h0 = c.deref-in-If.ensures in cc)) c.choose.ensures.did)

pub run_statement-returns-in-Each-clause-did : goal.run_statement-returns-in-Each-clause-did
run_statement-returns-in-Each-clause-did g t c =
    env-told c.each.new.env c.args.env.now c.each.result _ _ _ c.each.ensures.env
    (as-shown (λ (u : Unit {0}). env_of c.args.env.now) c.each.result (acting_of c.args.acting.now) (syntax.each (shown c.deref-in-Each.result.now) c.in-Each.name (block_shown c.in-Each.body)) c.args.statement.now (env_of c.args.env.now) _ _
    (ap stmt_shown c.in-Each.is ∙ stmt-Each c.in-Each.e c.in-Each.name c.in-Each.body ∙ (let h0 = c.deref-in-Each.ensures in cc)) c.each.ensures.did)

pub run_statement-returns-in-Call-clause-did : goal.run_statement-returns-in-Call-clause-did
run_statement-returns-in-Call-clause-did g t c =
    as-shown (λ (u : Unit {0}). env_of c.args.env.now) c.call_on.result (acting_of c.args.acting.now) (syntax.call (shown c.deref-in-Call.result.now) c.in-Call.name (expressions (map shown c.as_slice-args.result.now))) c.args.statement.now (env_of c.args.env.now) _ _
    (ap stmt_shown c.in-Call.is ∙ stmt-Call c.in-Call.on c.in-Call.name c.in-Call.args ∙ (let h0 = c.deref-in-Call.ensures in let h1 = c.as_slice-args.ensures in cc)) c.call_on.ensures.did

pub run_statement-returns-in-Try-clause-did : goal.run_statement-returns-in-Try-clause-did
run_statement-returns-in-Try-clause-did g t c =
    env-told c.attempt.new.env c.args.env.now c.attempt.result _ _ _ c.attempt.ensures.env
    (as-shown (λ (u : Unit {0}). env_of c.args.env.now) c.attempt.result (acting_of c.args.acting.now) (syntax.attempt (block_shown c.in-Try.first) (block_shown c.in-Try.second)) c.args.statement.now (env_of c.args.env.now) _ _
    (ap stmt_shown c.in-Try.is ∙ stmt-Try c.in-Try.first c.in-Try.second) c.attempt.ensures.did)

pub run_statement-returns-in-Throw-clause-did : goal.run_statement-returns-in-Throw-clause-did
run_statement-returns-in-Throw-clause-did g t c =
    as-shown _ (Err c.thrown.result) (acting_of c.args.acting.now) _ c.args.statement.now (env_of c.args.env.now) _ _
    (ap stmt_shown c.in-Throw.is ∙ stmt-Throw c.in-Throw.reason) (acts-refuses _ c.thrown.result c.args.acting.now.frame.now _ _ c.thrown.ensures)

pub run_statements-returns-in_err-count-clause-did :
    goal.run_statements-returns-in_err-count-clause-did
run_statements-returns-in_err-count-clause-did g t c =
    let i = c.loop-statement.statement-index in
    let listed = c.args.listed.now in
    let opened = statements-opened listed i c.statement-item.result c.loop-statement-test.true c.statement-item.is in
    let all = statements (map stmt_shown (drop i listed)) in
    let rest = statements (map stmt_shown (drop (i + 1) listed)) in
    let by = acting_of c.args.acting.now in
    acts-handed (λ u. u) c.in_err-count.field-0.0 c.from_residual.result _ _ _ c.from_residual.ensures.1
    (statement-uncounted (λ u. u) _ by all (stmt_shown c.statement-item.result) rest (env_of c.loop-statement.env) c.in_err-count.field-0.0 _ _ _ opened c.loop-statement.invariant.left (c.in_err-count.ensures.did _ _))

pub run_statements-returns-in_err-run_statement-clause-did :
    goal.run_statements-returns-in_err-run_statement-clause-did
run_statements-returns-in_err-run_statement-clause-did g t c =
    let i = c.loop-statement.statement-index in
    let listed = c.args.listed.now in
    let opened = statements-opened listed i c.statement-item.result c.loop-statement-test.true c.statement-item.is in
    let all = statements (map stmt_shown (drop i listed)) in
    let rest = statements (map stmt_shown (drop (i + 1) listed)) in
    let by = acting_of c.args.acting.now in
    acts-handed (λ u. u) c.in_err-run_statement.field-0.0 c.from_residual-in_err-run_statement.result _ _ _ c.from_residual-in_err-run_statement.ensures.1
    (statement-refused (λ u. u) _ by all (stmt_shown c.statement-item.result) rest (env_of c.loop-statement.env) (env_of c.run_statement.new.env) tt c.in_err-run_statement.field-0.0 _ _ _ _ opened c.loop-statement.invariant.left
    (c.in_ok-count.ensures.did _ _) c.in_err-run_statement.ensures.did)

pub run_statements-loop-statement-preserved : goal.run_statements-loop-statement-preserved
run_statements-loop-statement-preserved g t c =
    let i = c.loop-statement.statement-index in
    let listed = c.args.listed.now in
    let opened = statements-opened listed i c.statement-item.result c.loop-statement-test.true c.statement-item.is in
    let all = statements (map stmt_shown (drop i listed)) in
    let rest = statements (map stmt_shown (drop (i + 1) listed)) in
    let by = acting_of c.args.acting.now in
    record {
      left = statement-left (λ u. u) _ by all (stmt_shown c.statement-item.result) rest (env_of c.loop-statement.env) (env_of c.run_statement.new.env) tt tt _ _ _ _ opened c.loop-statement.invariant.left
          (c.in_ok-count.ensures.did _ _) c.in_ok-run_statement.ensures.did;
      good = (subst (λ sts. HoldsInBlock HasPlainConstants sts) opened c.loop-statement.invariant.good).1;
      bound = c.in_ok-run_statement.ensures.bound;
      kept = kept-on c.args.env.now.bindings c.loop-statement.env.bindings c.run_statement.new.env.bindings c.loop-statement.invariant.kept c.in_ok-run_statement.ensures.kept;
      rises = let h = c.loop-statement.invariant.rises in let k = c.in_ok-count.ensures.more in let m = c.in_ok-run_statement.ensures.did.rises in omega (arith, h, k, m);
    }

pub run_statements-returns-clause-did : goal.run_statements-returns-clause-did
run_statements-returns-clause-did g t c =
    let i = c.loop-statement.statement-index in
    let listed = c.args.listed.now in
    none-left (λ u. u) _ (acting_of c.args.acting.now) (statements (map stmt_shown (drop i listed))) (env_of c.loop-statement.env) tt _ _
    (ap (λ xs. statements (map stmt_shown xs)) (drop_of_length-le listed {i = i} (omega (arith, c.loop-statement-test.false)))) c.loop-statement.invariant.left

pub run_turn-returns-in_err-clone_in-clause-did : goal.run_turn-returns-in_err-clone_in-clause-did
run_turn-returns-in_err-clone_in-clause-did g t c = acts-out-at (λ u. u) c.from_residual.result _ _ c.from_residual.ensures.1

pub run_turn-returns-in_err-bind-clause-did : goal.run_turn-returns-in_err-bind-clause-did
run_turn-returns-in_err-bind-clause-did g t c = acts-out-at (λ u. u) c.from_residual-in_err-bind.result _ _ c.from_residual-in_err-bind.ensures.1

pub run_turn-returns-clause-did : goal.run_turn-returns-clause-did
run_turn-returns-clause-did g t c =
    env-bound (acting_of c.args.acting.now) (block_shown c.args.turn.now.body.now) _ ((c.args.turn.now.name.now, answer_of c.args.turn.now.value.now) ∷ env_of c.args.env.now) c.run_block-result.result _ _
    (c.in_ok-bind.ensures.ok ∙ ap (λ v. (c.args.turn.now.name.now, answer_of v) ∷ env_of c.args.env.now) c.in_ok-clone_in.ensures) c.run_block-result.ensures.did

pub surround-returns-in_err-is_atomic : goal.surround-returns-in_err-is_atomic
surround-returns-in_err-is_atomic g t c =
    acts-handed (λ u. u) c.in_err-is_atomic.field-0.0 c.from_residual.result _ _ _ c.from_residual.ensures.1 (c.in_err-is_atomic.ensures _ c.args.counted.now)

pub surround-returns-then-is_err : goal.surround-returns-then-is_err
surround-returns-then-is_err g t c =
    let b = point (state c.args.tree.now) c.args.counted.now c.pass.new.steps in
    let back = c.roll_back.ensures.back (state c.args.tree.now) c.mark-mark.ensures.mark c.run_block-result.ensures.did.back in
    surround-back c.in_ok-is_atomic.is_atomic _ _ c.run_block-result.result _ b _ _
    (and-true c.in_ok-is_atomic.is_atomic _ c.if-is_atomic.true (sym c.is_err.ensures.value ∙ c.if-is_err.true))
    (ap (λ t. point t c.run_block-result.new.counted c.run_block-result.new.steps) back) (c.in_ok-is_atomic.ensures _ c.args.counted.now) c.run_block-result.ensures.did

pub surround-returns-else-is_atomic : goal.surround-returns-else-is_atomic
surround-returns-else-is_atomic g t c =
    let b = point (state c.args.tree.now) c.args.counted.now c.pass.new.steps in
    let stays : c.in_ok-is_atomic.is_atomic && is_err c.run_block-result.result ≡ false =
    elim c.else-is_atomic.branch [
      | surround-else-is_atomic-via-then-is_atomic+else-is_err w ↦ and-false-right c.in_ok-is_atomic.is_atomic _ (sym w.is_err.ensures.value ∙ w.if-is_err.false)
      | surround-else-is_atomic-via-else-is_atomic w ↦ and-false-left c.in_ok-is_atomic.is_atomic _ w.if-is_atomic.false
    ] in
    surround-stays c.in_ok-is_atomic.is_atomic _ _ c.run_block-result.result _ b _ stays (c.in_ok-is_atomic.ensures _ c.args.counted.now) c.run_block-result.ensures.did

pub attempt-returns-then-is_rescued-clause-did : goal.attempt-returns-then-is_rescued-clause-did
attempt-returns-then-is_rescued-clause-did g t c =
    acts-keeping (env_of c.args.env.now) c.run_block.result _ _ _
    (tried-again _ _ c.run_block-tried.result c.run_block.result _ _ _ (sym c.is_rescued.ensures ∙ c.if-is_rescued.true) c.run_block-tried.ensures.did
    (bound-as (ran_block (acting_of c.args.acting.now) (block_shown c.args.second.now)) c.run_block-tried.new.env c.args.env.now c.run_block.result _ _ c.run_block-tried.ensures.env c.run_block.ensures.did))

pub attempt-returns-clause-did : goal.attempt-returns-clause-did
attempt-returns-clause-did g t c =
    acts-keeping (env_of c.args.env.now) c.run_block-tried.result _ _ _
    (tried-once _ _ c.run_block-tried.result _ _ (sym c.is_rescued.ensures ∙ c.if-is_rescued.false) c.run_block-tried.ensures.did)
