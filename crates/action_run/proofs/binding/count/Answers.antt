use Rattle.std.proofs.Common.{arith}
use Rattle.action_run.proofs.Counted.{counted-more, counted-most}
use Rattle.action_run.proofs.binding.count.Goals as goal

pub returns-then-counted-ge-MOST_STATEMENTS-clause-did :
    goal.returns-then-counted-ge-MOST_STATEMENTS-clause-did
returns-then-counted-ge-MOST_STATEMENTS-clause-did c =
    λ tree steps. counted-most c.args.frame.now c.refused.result c.args.counted.now steps tree (omega (arith, c.if-counted-ge-MOST_STATEMENTS.true)) c.refused.ensures

pub returns-clause-did : goal.returns-clause-did
returns-clause-did c = λ tree steps. counted-more c.args.frame.now c.args.counted.now steps tree (omega (arith, c.if-counted-ge-MOST_STATEMENTS.false))
