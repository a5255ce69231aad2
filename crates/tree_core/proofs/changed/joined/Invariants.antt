-- What is added so far, and what is left, are all.
use Rattle.std.proofs.Common.{◌≡◌, ◌++◌, drop, take}
use Rattle.tree_core.proofs.changed.joined.Given as goal

abbrev pub invariant-loop-turn : goal.invariant-loop-turn
invariant-loop-turn l = l.whole ≡ take l.turn-index l.first

abbrev pub invariant-loop-turn-2 : goal.invariant-loop-turn-2
invariant-loop-turn-2 l = l.whole ++ drop l.turn-index l.turn-items ≡ l.first ++ l.rest
