use Rattle.std.proofs.Common.{◌≡◌, [], ◌∷◌, ap, ◌∙◌, refl}
use Rattle.std.specs.Prelude.{codes}
use Rattle.eval_core.specs.Answer.{node}
use Rattle.view_engine.specs.Names.{bindings_of}
use Rattle.action_steps.proofs.Reaching.{own-bound}
use Rattle.action_steps.proofs.binding.own_names.Goals as goal

pub returns : goal.returns
returns c = λ types.
    let root = c.in_ok-bound_node.field-0 in
    let own = c.in_ok-bound_node-2.field-0 in
    let pushed : c.push-2.new.self ≡ root ∷ own ∷ [] = rw (c.in_ok-push-2.ensures.ok, c.in_ok-push.ensures.ok, c.new-bindings.ensures) refl in
    ap bindings_of pushed ∙ own-bound root own c.root_of.result c.args.n c.in_ok-bound_node.ensures c.in_ok-bound_node-2.ensures
    ∙ ap (λ r. (codes "self", node c.args.n) ∷ (codes "root", node r) ∷ []) (c.root_of.ensures types)
