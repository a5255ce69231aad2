use Rattle.std.proofs.Common.{sym, arith}
use Rattle.edge_core.proofs.Written.{nothing_written, none_written}
use Rattle.edge_core.proofs.memory_door.unwritten.Goals as goal

pub returns-then-at-len : goal.returns-then-at-len
returns-then-at-len c = sym (nothing_written c.args.coming.now.items c.args.at (omega arith))

pub returns-else-at-len : goal.returns-else-at-len
returns-else-at-len c = sym (none_written c.args.coming.now.items c.args.at (omega arith))
