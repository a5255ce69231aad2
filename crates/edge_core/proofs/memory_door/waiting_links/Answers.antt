use Rattle.std.proofs.Common.{length, arith, refl, ap}
use Rattle.std.proofs.lemmas.Grind.{common_steps}
use Rattle.std.proofs.lemmas.List.Elements.{All-push}
use Rattle.edge_core.specs.LinkInside.{IsFresh}
use Rattle.edge_core.proofs.memory_door.waiting_links.Goals as goal

pub loop-input-preserved : goal.loop-input-preserved
loop-input-preserved c =
    let next = c.in-Some.ensures.steps in
    record {
      inputs = rw (c.in_ok-push_back.ensures.items, c.in_ok-new.ensures) (grind (arith, common_steps, c.loop-input.invariant.inputs, next.0));
      left = omega (arith, c.loop-input.invariant.left, ap length next.0, next.1);
      fresh =
          let here : IsFresh c.args.space c.in_ok-new.field-0 = rw c.in_ok-new.ensures (record { unwritten = refl; roomy = refl }) in
          rw c.in_ok-push_back.ensures.items (All-push (IsFresh c.args.space) _ _ c.loop-input.invariant.fresh here);
    }
