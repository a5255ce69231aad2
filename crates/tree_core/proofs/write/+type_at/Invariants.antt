-- The way gets shorter.
use Rattle.std.proofs.Common.{length}
use Rattle.tree_core.proofs.write.+type_at.Given as goal

abbrev pub decreases-type_at : goal.decreases-type_at
decreases-type_at l = length l.way.now
