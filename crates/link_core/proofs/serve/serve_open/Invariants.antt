-- So many requests were answered, and what came behind them is held.
use Rattle.std.proofs.Common.{◌+◌, ◌-◌, ◌*◌, ◌<◌, ◌≤◌, length}
use Rattle.edge_core.specs.Door.{KeepsDoor}
use Rattle.link_core.proofs.Serving.{IsServing}
use Rattle.link_core.proofs.serve.serve_open.Given as goal

abbrev pub invariant-loop-request : goal.invariant-loop-request
invariant-loop-request g l =
    let state = g.D.Door.state in
    record {
      some : 0 < l.left;
      most : l.left ≤ 1000000;
      serving : IsServing g.A.Handler.replies (record {
        before = l.fn.answers;
        after = l.answers;
        links = record { before = (state l.fn.door).links; after = (state l.door).links };
      }) l.room (1000000 - l.left);
      keeps : KeepsDoor (state l.fn.door) (state l.door);
    }

abbrev pub decreases-loop-request : goal.decreases-loop-request
decreases-loop-request g l = l.left * 393217 + (393216 - length l.room)
