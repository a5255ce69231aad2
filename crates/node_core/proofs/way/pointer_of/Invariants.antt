-- The tokens so far, and those that are left, are all.
use Rattle.std.proofs.Common.{◌≡◌, ◌++◌, map, drop}
use Rattle.edit_core.specs.Plain.{token_of}
use Rattle.node_core.specs.View.{way}
use Rattle.node_core.proofs.way.pointer_of.Given as goal

abbrev pub invariant-loop-turn : goal.invariant-loop-turn
invariant-loop-turn l = l.pointer ++ map token_of (way (drop l.turn-index l.turns)) ≡ map token_of (way l.turns)
