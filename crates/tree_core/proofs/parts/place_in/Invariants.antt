-- All entries so far come before the key.
use Rattle.std.proofs.Common.{◌≡◌, ◌+◌, drop}
use Rattle.node_core.specs.View.{fields}
use Rattle.tree_core.specs.Nodes.{place_in}
use Rattle.tree_core.proofs.parts.place_in.Given as goal

abbrev pub invariant-loop-at : goal.invariant-loop-at
invariant-loop-at l = l.at + place_in l.key (fields (drop l.at l.entries)) ≡ place_in l.key (fields l.entries)
