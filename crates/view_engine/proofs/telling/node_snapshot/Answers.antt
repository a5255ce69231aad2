use Rattle.std.proofs.Common.{refl}
use Rattle.view_engine.specs.Progress.{scope_of, whole_in}
use Rattle.view_engine.proofs.LeavesNodes.{snapshot-read}
use Rattle.view_engine.proofs.telling.node_snapshot.Goals as goal

pub returns-in-Ok : goal.returns-in-Ok
returns-in-Ok g c = snapshot-read (scope_of g.S.Bodies.says c.args.scope.now) (whole_in g.S.Bodies.says c.args.scope.now) c.args.n c.in-Ok.value refl c.in-Ok.ensures
