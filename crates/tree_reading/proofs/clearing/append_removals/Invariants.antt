-- The removals from an index on are added.
use Rattle.std.proofs.Common.{◌≡◌, ◌≤◌, ◌++◌, length, drop}
use Rattle.edit_core.specs.Labelled.{branches}
use Rattle.node_core.specs.View.{items, edits_of}
use Rattle.tree_core.specs.Settling.{item_removals}
use Rattle.tree_reading.specs.Clearing.{goes_by}
use Rattle.tree_reading.proofs.clearing.append_removals.Given as goal

abbrev pub invariant-loop-i : goal.invariant-loop-i
invariant-loop-i l = record {
  within : l.i ≤ length l.parts;
  added : edits_of l.edits ≡ edits_of l.initial.edits ++ item_removals (goes_by l.by) l.of.0 l.i (branches (items (drop l.i l.parts)));
}

abbrev pub decreases-loop-i : goal.decreases-loop-i
decreases-loop-i l = l.i
