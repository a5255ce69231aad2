use Rattle.std.proofs.Common.{◌≡◌, length}
use Rattle.tree_core.specs.State.{rolled_back}
use Rattle.live_tree.specs.Contents.{state}
use Rattle.live_tree.proofs.tree.Tree.roll_back.Given as goal

-- what is left to take back leads to the mark's state
abbrev pub invariant-loop-mark : goal.invariant-loop-mark
invariant-loop-mark l = rolled_back l.mark.0 (state l.self) ≡ rolled_back l.fn.mark.0 (state l.fn.self)

abbrev pub decreases-loop-mark : goal.decreases-loop-mark
decreases-loop-mark l = length l.self.calls
