-- What is done so far, and what is left, are all.
use Rattle.std.proofs.Common.{◌≡◌, replicate, None}
use Rattle.reconcile_core.proofs.matching.open_slots.Given as goal

abbrev pub invariant-loop-slot : goal.invariant-loop-slot
invariant-loop-slot l = l.slots ≡ replicate l._slot None
