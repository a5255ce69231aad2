-- All entries before have lower keys.
use Rattle.std.proofs.Common.{◌≡◌, ◌+◌, drop}
use Rattle.node_core.specs.View.{fields}
use Rattle.tree_core.specs.Nodes.{place_in}
use Rattle.tree_reading.proofs.pointers.place_in.Given as goal

abbrev pub invariant-loop-i : goal.invariant-loop-i
invariant-loop-i l = l.i + place_in l.key (fields (drop l.i l.parts)) ≡ place_in l.key (fields l.parts)
