use Rattle.std.proofs.Common.{length}
use Rattle.action_steps.proofs.layers.+layers_along.Given as goal

abbrev pub decreases-layers_along : goal.decreases-layers_along
decreases-layers_along l = length l.turns.now
