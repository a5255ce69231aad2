use Rattle.std.proofs.Common.{◌∙◌}
use Rattle.view_engine.specs.Progress.{whole_in}
use Rattle.view_engine.proofs.Seeing.{place-told, place-untold}
use Rattle.view_engine.proofs.path.node_path.Goals as goal

pub returns-in-Ok : goal.returns-in-Ok
returns-in-Ok g c = place-told (whole_in g.S.Bodies.says c.args.scope.now) c.args.n c.in-Ok.path c.in-Ok.ensures

pub returns : goal.returns
returns g c = c.new.ensures ∙ place-untold (whole_in g.S.Bodies.says c.args.scope.now) c.args.n _ (rw c.in-Err-Refused.field-0-is at c.in-Err-Refused.ensures)
