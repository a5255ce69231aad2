-- What is done so far, and what is left, are all.
use Rattle.std.proofs.Common.{◌≡◌, map, take, Some}
use Rattle.node_core.specs.View.{items}
use Rattle.reconcile_core.specs.Slots.{slot_values}
use Rattle.reconcile_core.proofs.matching.each_itself.Given as goal

abbrev pub invariant-loop-i : goal.invariant-loop-i
invariant-loop-i l = slot_values (items l.olds) l.slots ≡ map Some (take l.i (items l.olds))
