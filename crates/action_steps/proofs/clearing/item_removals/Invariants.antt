use Rattle.std.proofs.Common.{◌≡◌, ◌++◌}
use Rattle.edit_core.specs.Labelled.{branches}
use Rattle.node_core.specs.View.{items}
use Rattle.action_core.specs.Statements as specs
use Rattle.action_steps.proofs.Removing.{items_down}
use Rattle.action_steps.proofs.clearing.item_removals.Given as goal

abbrev pub invariant-loop-i : goal.invariant-loop-i
invariant-loop-i l = l.places ++ items_down l.n 0 l.i ≡ specs.item_removals l.n 0 (branches (items l.parts))

abbrev pub decreases-loop-i : goal.decreases-loop-i
decreases-loop-i l = l.i
