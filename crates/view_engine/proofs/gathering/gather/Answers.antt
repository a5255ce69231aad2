use Rattle.std.proofs.Common.{ap}
use Rattle.answer_ops.specs.View.{answer_of}
use Rattle.view_engine.specs.Progress.{scope_of}
use Rattle.view_engine.specs.Walked.{walk_in}
use Rattle.view_engine.proofs.Turning.{collected-turn}
use Rattle.view_engine.proofs.gathering.gather.Goals as goal

pub returns-in-Filter-Plain-Bool-clause-walk : goal.returns-in-Filter-Plain-Bool-clause-walk
returns-in-Filter-Plain-Bool-clause-walk g c = c.filtered.ensures.walk c.args.so_far (ap walk_in c.in-Filter-Plain-Bool.is-0)

pub returns-in-Collect-default-clause-walk : goal.returns-in-Collect-default-clause-walk
returns-in-Collect-default-clause-walk g c = c.collected.ensures.walk c.args.so_far (ap walk_in c.in-Collect-default.is-0)

pub returns-in-Collect-default-clause-turn : goal.returns-in-Collect-default-clause-turn
returns-in-Collect-default-clause-turn g c =
    collected-turn (scope_of g.S.Bodies.says c.args.scope.now) c.args.so_far c.in-Collect-default.values _ (answer_of c.args.x) (answer_of c.args.y) _ c.in-Collect-default.is-0 (cc) (c.collected.ensures.turn (answer_of c.args.x))
