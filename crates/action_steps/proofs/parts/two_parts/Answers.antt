use Rattle.std.proofs.Common.{Ok, refl}
use Rattle.expr_syntax.specs.Shown.{shown}
use Rattle.answer_ops.specs.View.{answer_of}
use Rattle.answer_ops.specs.declared.value.Value.{Value}
use Rattle.eval_core.specs.Evaluating.{evaluated}
use Rattle.action_core.specs.Running.{two}
use Rattle.action_steps.specs.Acting.{env_of}
use Rattle.action_steps.specs.Parts.{scope_in, telling_in, both_of}
use Rattle.action_steps.specs.declared.parts.TwoParts.{TwoParts}
use Rattle.action_steps.proofs.Evaluations.{parts-act, part-handed, two-first, two-second, two-both}
use Rattle.action_steps.proofs.parts.two_parts.Goals as goal

pub returns-in_err-first-clause-did : goal.returns-in_err-first-clause-did
returns-in_err-first-clause-did g c = λ n.
    let a = c.args.acting.now in
    let tree = c.args.tree.now in
    let t = telling_in a tree in
    let s = scope_in a tree in
    let env = env_of c.args.env.now in
    parts-act both_of c.from_residual.result a tree (λ u. two (evaluated u (shown c.args.first.now) env) (evaluated u (shown c.args.second.now) env)) n _ _ _
    (part-handed t both_of c.in_err-first.field-0.0 c.from_residual.result _ _ c.from_residual.ensures.1
    (two-first {T = Value} {W = TwoParts} t answer_of both_of c.in_err-first.field-0.0 (evaluated s (shown c.args.first.now) env) (evaluated s (shown c.args.second.now) env) _ c.in_err-first.ensures.did))

pub returns-in_err-second-clause-did : goal.returns-in_err-second-clause-did
returns-in_err-second-clause-did g c = λ n.
    let a = c.args.acting.now in
    let tree = c.args.tree.now in
    let t = telling_in a tree in
    let s = scope_in a tree in
    let env = env_of c.args.env.now in
    parts-act both_of c.from_residual-in_err-second.result a tree (λ u. two (evaluated u (shown c.args.first.now) env) (evaluated u (shown c.args.second.now) env)) n _ _ _
    (part-handed t both_of c.in_err-second.field-0.0 c.from_residual-in_err-second.result _ _ c.from_residual-in_err-second.ensures.1
    (two-second {T = Value} {U = Value} {W = TwoParts} t answer_of answer_of both_of c.in_ok-first.first c.in_err-second.field-0.0 (evaluated s (shown c.args.first.now) env) (evaluated s (shown c.args.second.now) env) _ _ _ _ _ _ c.in_ok-first.ensures.did c.in_err-second.ensures.did))

pub returns-clause-did : goal.returns-clause-did
returns-clause-did g c = λ n.
    let a = c.args.acting.now in
    let tree = c.args.tree.now in
    let t = telling_in a tree in
    let s = scope_in a tree in
    let env = env_of c.args.env.now in
    let both : TwoParts = record { first = c.in_ok-first.first; second = c.in_ok-second.second } in
    parts-act both_of (Ok both) a tree (λ u. two (evaluated u (shown c.args.first.now) env) (evaluated u (shown c.args.second.now) env)) n _ _ _
    (two-both t answer_of answer_of both_of c.in_ok-first.first c.in_ok-second.second both (evaluated s (shown c.args.first.now) env) (evaluated s (shown c.args.second.now) env) _ _ _ _ _ _ refl c.in_ok-first.ensures.did c.in_ok-second.ensures.did)

pub returns-clause-plain : goal.returns-clause-plain
returns-clause-plain g c = c.in_ok-second.ensures.plain c.requires.constants c.requires.bound
