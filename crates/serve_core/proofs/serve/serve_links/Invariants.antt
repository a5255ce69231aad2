-- What the links still to be taken come to is what serving comes to.
use Rattle.std.proofs.Common.{◌≡◌, false, IsTrue}
use Rattle.serve_core.specs.Serving.{Moment, ServesLinks, most_links}
use Rattle.serve_core.specs.declared.plan.ServeEnd.{ServeEnd}
use Rattle.serve_core.proofs.serve.serve_links.Given as goal

abbrev pub invariant-loop-left : goal.invariant-loop-left
invariant-loop-left g l =
    let state = g.D.Door.state in
    let replies = g.A.Handler.replies in
    record {
      attached : IsTrue (state l.door).is_attached;
      none_open : (state l.door).is_open ≡ false;
      goes_on :
          (after : Moment _) (end : ServeEnd)
          → ServesLinks replies l.left (record {
            plan = l.fn.plan;
            before = record { state = l.answers; door = state l.door };
            after = after;
          }) end
          → ServesLinks replies (most_links l.fn.plan) (record {
            plan = l.fn.plan;
            before = record { state = l.fn.answers; door = state l.fn.door };
            after = after;
          }) end;
    }

abbrev pub decreases-loop-left : goal.decreases-loop-left
decreases-loop-left g l = l.left
