-- What is copied so far, and what is left, are the whole.
use Rattle.std.proofs.Common.{◌≡◌, ◌++◌, drop}
use Rattle.node_core.proofs.way.copy_way.Given as goal

abbrev pub invariant-loop-turn : goal.invariant-loop-turn
invariant-loop-turn l = l.copy ++ drop l.turn-index l.way ≡ l.way
