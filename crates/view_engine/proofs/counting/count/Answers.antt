use Rattle.std.proofs.Common.{arith}
use Rattle.view_engine.specs.Progress.{standing_of}
use Rattle.view_engine.proofs.Courses.{counts-refused, counts-one}
use Rattle.view_engine.proofs.counting.count.Goals as goal

pub returns-then-counted-ge-MOST_EXPRESSIONS-clause-did : goal.returns-then-counted-ge-MOST_EXPRESSIONS-clause-did
returns-then-counted-ge-MOST_EXPRESSIONS-clause-did g c =
    counts-refused (standing_of c.args.scope.now.going).here c.refused.result c.args.counted.now c.args.steps.now (omega arith) c.refused.ensures

pub returns-clause-did : goal.returns-clause-did
returns-clause-did g c =
    counts-one (standing_of c.args.scope.now.going).here c.step_of.result c.args.counted.now c.args.steps.now c.look.new.steps (omega arith) c.look.ensures.tick
