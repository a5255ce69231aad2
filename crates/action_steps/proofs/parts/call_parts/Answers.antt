use Rattle.std.proofs.Common.{List, Ok, map, refl}
use Rattle.expr_syntax.specs.Shown.{shown, expressions}
use Rattle.answer_ops.specs.View.{answer_of, answers_of}
use Rattle.answer_ops.specs.declared.value.Value.{Value}
use Rattle.eval_core.specs.Evaluating.{evaluated, all_evaluated}
use Rattle.action_core.specs.Running.{two}
use Rattle.action_steps.specs.Acting.{env_of}
use Rattle.action_steps.specs.Parts.{scope_in, telling_in, call_of}
use Rattle.action_steps.specs.declared.parts.CallParts.{CallParts}
use Rattle.action_steps.proofs.Evaluations.{parts-act, part-handed, two-first, two-second, two-both}
use Rattle.action_steps.proofs.parts.call_parts.Goals as goal

pub returns-in_err-on-clause-did : goal.returns-in_err-on-clause-did
returns-in_err-on-clause-did g c = λ n.
    let a = c.args.acting.now in
    let tree = c.args.tree.now in
    let t = telling_in a tree in
    let s = scope_in a tree in
    let env = env_of c.args.env.now in
    let on = shown c.args.on.now in
    let args = expressions (map shown c.args.args.now) in
    parts-act call_of c.from_residual.result a tree (λ u. two (evaluated u on env) (all_evaluated u args env)) n _ _ _
    (part-handed t call_of c.in_err-on.field-0.0 c.from_residual.result _ _ c.from_residual.ensures.1
    (two-first {T = Value} {W = CallParts} t answer_of call_of c.in_err-on.field-0.0 (evaluated s on env) (all_evaluated s args env) _ c.in_err-on.ensures.did))

pub returns-in_err-args-clause-did : goal.returns-in_err-args-clause-did
returns-in_err-args-clause-did g c = λ n.
    let a = c.args.acting.now in
    let tree = c.args.tree.now in
    let t = telling_in a tree in
    let s = scope_in a tree in
    let env = env_of c.args.env.now in
    let on = shown c.args.on.now in
    let args = expressions (map shown c.args.args.now) in
    parts-act call_of c.from_residual-in_err-args.result a tree (λ u. two (evaluated u on env) (all_evaluated u args env)) n _ _ _
    (part-handed t call_of c.in_err-args.field-0.0 c.from_residual-in_err-args.result _ _ c.from_residual-in_err-args.ensures.1
    (two-second {T = Value} {U = List Value} {W = CallParts} t answer_of answers_of call_of c.in_ok-on.on c.in_err-args.field-0.0 (evaluated s on env) (all_evaluated s args env) _ _ _ _ _ _
    c.in_ok-on.ensures.did c.in_err-args.ensures.did))

pub returns-clause-did : goal.returns-clause-did
returns-clause-did g c = λ n.
    let a = c.args.acting.now in
    let tree = c.args.tree.now in
    let t = telling_in a tree in
    let s = scope_in a tree in
    let env = env_of c.args.env.now in
    let on = shown c.args.on.now in
    let args = expressions (map shown c.args.args.now) in
    let parts : CallParts = record { on = c.in_ok-on.on; args = c.in_ok-args.args } in
    parts-act call_of (Ok parts) a tree (λ u. two (evaluated u on env) (all_evaluated u args env)) n _ _ _
    (two-both t answer_of answers_of call_of c.in_ok-on.on c.in_ok-args.args parts (evaluated s on env) (all_evaluated s args env) _ _ _ _ _ _ refl c.in_ok-on.ensures.did c.in_ok-args.ensures.did)
