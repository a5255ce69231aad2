use Rattle.std.proofs.Common.{arith}
use Rattle.tree_reading.proofs.NodeParts.{key-there, key-not-there}
use Rattle.tree_reading.proofs.nodes.key_in.Goals as goal

pub returns-then-i-parts : goal.returns-then-i-parts
returns-then-i-parts c = rw (← c.index-parts-i.is) (key-there c.args.parts.now c.args.i c.index-parts-i.result c.index-parts-i.is (omega arith))

pub returns-else-i-parts : goal.returns-else-i-parts
returns-else-i-parts c = key-not-there c.args.parts.now c.args.i (omega arith)
