use Rattle.std.proofs.Common.{Bool}
use Rattle.expr_syntax.specs.Shown.{shown}
use Rattle.answer_ops.specs.View.{answer_of}
use Rattle.answer_ops.specs.declared.value.Value.{Value}
use Rattle.eval_core.specs.Run.{andthen}
use Rattle.eval_core.specs.Evaluating.{evaluated, truth}
use Rattle.action_steps.specs.Acting.{env_of}
use Rattle.action_steps.specs.Parts.{scope_in, telling_in}
use Rattle.action_steps.proofs.Evaluations.{parts-act, part-handed, part-stop, part-then, truth-told}
use Rattle.action_steps.proofs.parts.condition.Goals as goal

pub returns-in_err-x : goal.returns-in_err-x
returns-in_err-x g c = λ n.
    let a = c.args.acting.now in
    let tree = c.args.tree.now in
    let t = telling_in a tree in
    let s = scope_in a tree in
    let e = shown c.args.e.now in
    let env = env_of c.args.env.now in
    parts-act (λ (b : Bool). b) c.from_residual.result a tree (λ u. andthen (evaluated u e env) (truth u)) n _ _ _
    (part-handed t (λ (b : Bool). b) c.in_err-x.field-0.0 c.from_residual.result _ _ c.from_residual.ensures.1
    (part-stop {T = Value} {U = Bool} t answer_of (λ b. b) c.in_err-x.field-0.0 (evaluated s e env) (truth s) _ c.in_err-x.ensures.did))

pub returns : goal.returns
returns g c = λ n.
    let a = c.args.acting.now in
    let tree = c.args.tree.now in
    let t = telling_in a tree in
    let s = scope_in a tree in
    let e = shown c.args.e.now in
    let env = env_of c.args.env.now in
    parts-act (λ (b : Bool). b) c.judged.result a tree (λ u. andthen (evaluated u e env) (truth u)) n _ _ _
    (part-then t answer_of (λ (b : Bool). b) c.in_ok-x.x c.judged.result (evaluated s e env) (truth s) _ _ _ _ _ _ c.in_ok-x.ensures.did
    (truth-told t s.viewing s.sight c.judged.result (answer_of c.in_ok-x.x) _ _ c.judged.ensures))
