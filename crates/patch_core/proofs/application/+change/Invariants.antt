-- Each call has fewer tokens left, or is a step nearer to the part in which it goes on.
use Rattle.std.proofs.Common.{◌+◌, ◌*◌, length}
use Rattle.patch_core.proofs.application.+change.Given as goal

abbrev pub decreases-change : goal.decreases-change
decreases-change l = 3 * length l.tokens.now

abbrev pub decreases-change_part : goal.decreases-change_part
decreases-change_part l = 3 * length l.rest.now + 2

abbrev pub decreases-change_item : goal.decreases-change_item
decreases-change_item l = 3 * length l.rest.now + 1

abbrev pub decreases-change_field : goal.decreases-change_field
decreases-change_field l = 3 * length l.rest.now + 1
