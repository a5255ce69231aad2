use Rattle.std.proofs.Common.{refl, rules}
use Rattle.view_engine.specs.Progress.{scope_of, whole_in}
use Rattle.view_engine.proofs.Levels.{walked-array, walked-map}
use Rattle.view_engine.proofs.items.walked_node.Goals as goal

pub returns-in-Some-Array : goal.returns-in-Some-Array
returns-in-Some-Array g c =
    walked-array (scope_of g.S.Bodies.says c.args.scope.now) (whole_in g.S.Bodies.says c.args.scope.now) c.args.n c.in-Some-Array.field-0 _ c.unwrap_or.result refl c.in-Some-Array.ensures c.in-Some-Array.field-0-is (search rules)

pub returns-in-Some-Map : goal.returns-in-Some-Map
returns-in-Some-Map g c =
    walked-map (scope_of g.S.Bodies.says c.args.scope.now) (whole_in g.S.Bodies.says c.args.scope.now) c.args.n c.in-Some-Map.field-0 _ c.map_len.result refl c.in-Some-Map.ensures c.in-Some-Map.field-0-is c.map_len.ensures
