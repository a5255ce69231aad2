use Rattle.std.proofs.Common.{map, ap, sym, ◌∙◌, refl}
use Rattle.live_tree.specs.Contents.{state}
use Rattle.answer_ops.specs.View.{answer_of}
use Rattle.action_core.specs.Beginning.{all_reached}
use Rattle.action_steps.specs.Beginning.{bound_as, seen}
use Rattle.view_engine.specs.Names.{bindings_of}
use Rattle.action_steps.proofs.Reaching.{bound_with, taken-next, taken-not}
use Rattle.action_steps.proofs.binding.all_reached.Goals as goal

pub loop-last-init : goal.loop-last-init
loop-last-init c =
    let sight = seen c.args.types.now (state c.args.tree.now).tree in
    ap (bound_with (all_reached sight (map bound_as c.args.given))) (c.in_ok-bindings.ensures c.args.types.now)

pub returns-in_default-reached : goal.returns-in_default-reached
returns-in_default-reached c =
    let l = c.loop-last in
    let sight = seen c.args.types.now (state c.args.tree.now).tree in
    sym (taken-not sight l.given c.pop.new.self c.in-Some.last (bindings_of l.bindings) c.in-Some.ensures.some c.in_default-reached.ensures) ∙ l.invariant

pub loop-last-preserved : goal.loop-last-preserved
loop-last-preserved c =
    let l = c.loop-last in
    let sight = seen c.args.types.now (state c.args.tree.now).tree in
    rw c.in_ok-push.ensures.ok
    (taken-next sight l.given c.pop.new.self c.in-Some.last (answer_of c.in-Some-reached.value) l.bindings (record { name = c.in-Some.last.name; value = c.in-Some-reached.value }) c.in-Some.ensures.some refl refl c.in-Some-reached.ensures ∙ l.invariant)
