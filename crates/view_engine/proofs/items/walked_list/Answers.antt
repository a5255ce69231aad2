use Rattle.view_engine.specs.Progress.{scope_of, whole_in}
use Rattle.view_engine.proofs.Levels.{walked-list}
use Rattle.view_engine.proofs.items.walked_list.Goals as goal

pub returns-in-List : goal.returns-in-List
returns-in-List g c = walked-list (scope_of g.S.Bodies.says c.args.scope.now) (whole_in g.S.Bodies.says c.args.scope.now) c.args.from c.in-List.values _ c.in-List.is (cc)
