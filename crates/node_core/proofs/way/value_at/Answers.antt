use Rattle.std.proofs.Common.{arith}
use Rattle.node_core.proofs.PartWays.{value-there, value-not-there}
use Rattle.node_core.proofs.way.value_at.Goals as goal

pub returns-then-at-parts : goal.returns-then-at-parts
returns-then-at-parts c = rw (← c.index-parts-at.is) (value-there c.args.parts.now c.args.at c.index-parts-at.result c.index-parts-at.is (omega arith))

pub returns-else-at-parts : goal.returns-else-at-parts
returns-else-at-parts c = value-not-there c.args.parts.now c.args.at (omega arith)
