use Rattle.std.proofs.Common.{Ok, refl}
use Rattle.expr_syntax.specs.Shown.{shown}
use Rattle.answer_ops.specs.View.{answer_of}
use Rattle.answer_ops.specs.declared.value.Value.{Value}
use Rattle.eval_core.specs.Evaluating.{evaluated}
use Rattle.action_core.specs.Running.{three}
use Rattle.action_steps.specs.Acting.{env_of}
use Rattle.action_steps.specs.Parts.{scope_in, telling_in, three_of}
use Rattle.action_steps.specs.declared.parts.ThreeParts.{ThreeParts}
use Rattle.action_steps.proofs.Evaluations.{parts-act, part-handed, three-first, three-second, three-third, three-all}
use Rattle.action_steps.proofs.parts.three_parts.Goals as goal

pub returns-in_err-first-clause-did : goal.returns-in_err-first-clause-did
returns-in_err-first-clause-did g c = λ n.
    let a = c.args.acting.now in
    let tree = c.args.tree.now in
    let t = telling_in a tree in
    let s = scope_in a tree in
    let env = env_of c.args.env.now in
    parts-act three_of c.from_residual.result a tree (λ u. three (evaluated u (shown c.args.first.now) env) (evaluated u (shown c.args.second.now) env) (evaluated u (shown c.args.third.now) env)) n _ _ _
    (part-handed t three_of c.in_err-first.field-0.0 c.from_residual.result _ _ c.from_residual.ensures.1
    (three-first {T = Value} {W = ThreeParts} t answer_of three_of c.in_err-first.field-0.0 (evaluated s (shown c.args.first.now) env) (evaluated s (shown c.args.second.now) env) (evaluated s (shown c.args.third.now) env) _ c.in_err-first.ensures.did))

pub returns-in_err-second-clause-did : goal.returns-in_err-second-clause-did
returns-in_err-second-clause-did g c = λ n.
    let a = c.args.acting.now in
    let tree = c.args.tree.now in
    let t = telling_in a tree in
    let s = scope_in a tree in
    let env = env_of c.args.env.now in
    parts-act three_of c.from_residual-in_err-second.result a tree (λ u. three (evaluated u (shown c.args.first.now) env) (evaluated u (shown c.args.second.now) env) (evaluated u (shown c.args.third.now) env)) n _ _ _
    (part-handed t three_of c.in_err-second.field-0.0 c.from_residual-in_err-second.result _ _ c.from_residual-in_err-second.ensures.1
    (three-second {T = Value} {U = Value} {W = ThreeParts} t answer_of answer_of three_of c.in_ok-first.first c.in_err-second.field-0.0 (evaluated s (shown c.args.first.now) env) (evaluated s (shown c.args.second.now) env) (evaluated s (shown c.args.third.now) env) _ _ _ _ _ _
    c.in_ok-first.ensures.did c.in_err-second.ensures.did))

pub returns-in_err-third-clause-did : goal.returns-in_err-third-clause-did
returns-in_err-third-clause-did g c = λ n.
    let a = c.args.acting.now in
    let tree = c.args.tree.now in
    let t = telling_in a tree in
    let s = scope_in a tree in
    let env = env_of c.args.env.now in
    parts-act three_of c.from_residual-in_err-third.result a tree (λ u. three (evaluated u (shown c.args.first.now) env) (evaluated u (shown c.args.second.now) env) (evaluated u (shown c.args.third.now) env)) n _ _ _
    (part-handed t three_of c.in_err-third.field-0.0 c.from_residual-in_err-third.result _ _ c.from_residual-in_err-third.ensures.1
    (three-third {T = Value} {U = Value} {V = Value} {W = ThreeParts} t answer_of answer_of answer_of three_of c.in_ok-first.first c.in_ok-second.second c.in_err-third.field-0.0
    (evaluated s (shown c.args.first.now) env) (evaluated s (shown c.args.second.now) env) (evaluated s (shown c.args.third.now) env) _ _ _ _ _ _ _ _ c.in_ok-first.ensures.did c.in_ok-second.ensures.did c.in_err-third.ensures.did))

pub returns-clause-did : goal.returns-clause-did
returns-clause-did g c = λ n.
    let a = c.args.acting.now in
    let tree = c.args.tree.now in
    let t = telling_in a tree in
    let s = scope_in a tree in
    let env = env_of c.args.env.now in
    let all : ThreeParts = record { first = c.in_ok-first.first; second = c.in_ok-second.second; third = c.in_ok-third.third } in
    parts-act three_of (Ok all) a tree (λ u. three (evaluated u (shown c.args.first.now) env) (evaluated u (shown c.args.second.now) env) (evaluated u (shown c.args.third.now) env)) n _ _ _
    (three-all t answer_of answer_of answer_of three_of c.in_ok-first.first c.in_ok-second.second c.in_ok-third.third all (evaluated s (shown c.args.first.now) env) (evaluated s (shown c.args.second.now) env) (evaluated s (shown c.args.third.now) env) _ _ _ _ _ _ _ _ refl
    c.in_ok-first.ensures.did c.in_ok-second.ensures.did c.in_ok-third.ensures.did)

pub returns-clause-plain : goal.returns-clause-plain
returns-clause-plain g c = c.in_ok-third.ensures.plain c.requires.constants c.requires.bound
