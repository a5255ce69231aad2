use Rattle.std.proofs.Common.{List, Ok, map}
use Rattle.expr_syntax.specs.Shown.{shown}
use Rattle.answer_ops.specs.View.{answer_of}
use Rattle.answer_ops.specs.declared.value.Value.{Value}
use Rattle.eval_core.specs.Run.{andthen}
use Rattle.eval_core.specs.Evaluating.{evaluated}
use Rattle.action_core.specs.Running.{items_read}
use Rattle.action_steps.specs.Acting.{env_of}
use Rattle.action_steps.specs.Parts.{scope_in, telling_in}
use Rattle.action_steps.proofs.Evaluations.{parts-act, part-handed}
use Rattle.action_steps.proofs.Framed.{items-fine}
use Rattle.action_steps.proofs.ItemsRead.{items-came, items-ended}
use Rattle.action_steps.proofs.parts.items.Goals as goal

pub returns-in_err-walked-clause-did : goal.returns-in_err-walked-clause-did
returns-in_err-walked-clause-did g c = λ n.
    let a = c.args.acting.now in
    let tree = c.args.tree.now in
    let t = telling_in a tree in
    let s = scope_in a tree in
    let e = shown c.args.e.now in
    let env = env_of c.args.env.now in
    parts-act (λ (xs : List Value). map answer_of xs) c.from_residual.result a tree (λ u. andthen (evaluated u e env) (items_read u)) n _ _ _
    (part-handed t (λ (xs : List Value). map answer_of xs) c.in_err-walked.field-0.0 c.from_residual.result _ _ c.from_residual.ensures.1
    (items-ended t s e env c.in_err-walked.field-0.0 _ c.in_err-walked.ensures))

pub returns-clause-did : goal.returns-clause-did
returns-clause-did g c = λ n.
    let a = c.args.acting.now in
    let tree = c.args.tree.now in
    let t = telling_in a tree in
    let s = scope_in a tree in
    let e = shown c.args.e.now in
    let env = env_of c.args.env.now in
    parts-act (λ (xs : List Value). map answer_of xs) (Ok c.listed.result) a tree (λ u. andthen (evaluated u e env) (items_read u)) n _ _ _
    (items-came t s e env c.in_ok-walked.walked c.listed.result _ c.in_ok-walked.ensures c.listed.ensures)

pub returns-clause-plain : goal.returns-clause-plain
returns-clause-plain g c =
    let a = c.args.acting.now in
    let tree = c.args.tree.now in
    let t = telling_in a tree in
    let s = scope_in a tree in
    let e = shown c.args.e.now in
    let env = env_of c.args.env.now in
    items-fine a tree e env c.listed.result _ c.values_are_plain.ensures.constants c.values_are_plain.ensures.value c.requires.constants c.requires.bound
    (items-came t s e env c.in_ok-walked.walked c.listed.result _ c.in_ok-walked.ensures c.listed.ensures)
