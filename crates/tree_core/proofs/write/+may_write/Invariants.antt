-- The way gets shorter.
use Rattle.std.proofs.Common.{◌+◌, ◌*◌, length}
use Rattle.tree_core.proofs.write.+may_write.Given as goal

abbrev pub decreases-may_write : goal.decreases-may_write
decreases-may_write l = 2 * length l.way.now

abbrev pub decreases-may_write_below : goal.decreases-may_write_below
decreases-may_write_below l = 2 * length l.rest.now + 1
