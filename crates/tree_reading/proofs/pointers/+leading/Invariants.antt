-- Fewer tokens are left at each step.
use Rattle.std.proofs.Common.{◌+◌, ◌*◌, length}
use Rattle.tree_reading.proofs.pointers.+leading.Given as goal

abbrev pub decreases-lead : goal.decreases-lead
decreases-lead l = 4 * length l.tokens.now

abbrev pub decreases-lead_behind : goal.decreases-lead_behind
decreases-lead_behind l = 4 * length l.rest.now + 3

abbrev pub decreases-lead_by_item : goal.decreases-lead_by_item
decreases-lead_by_item l = 4 * length l.rest.now + 2

abbrev pub decreases-lead_by_key : goal.decreases-lead_by_key
decreases-lead_by_key l = 4 * length l.rest.now + 2

abbrev pub decreases-lead_on : goal.decreases-lead_on
decreases-lead_on l = 4 * length l.rest.now + 1
