-- Where it goes among all, told by where it goes among the documents behind.
use Rattle.std.proofs.Common.{◌≡◌, ◌+◌, drop}
use Rattle.host_core.specs.Inside.{place_in}
use Rattle.host_core.proofs.creating.place_for.Given as goal

abbrev pub invariant-loop-at : goal.invariant-loop-at
invariant-loop-at l = place_in l.name l.docs ≡ l.at + place_in l.name (drop l.at l.docs)
