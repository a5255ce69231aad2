-- The edits so far are added.
use Rattle.std.proofs.Common.{◌≡◌, ◌++◌, map}
use Rattle.edit_core.specs.Logged.{behind}
use Rattle.node_core.specs.View.{turn, edits_of}
use Rattle.tree_reading.proofs.clearing.append_behind.Given as goal

abbrev pub invariant-loop-edit : goal.invariant-loop-edit
invariant-loop-edit l = edits_of l.to ≡ edits_of l.initial.to ++ map (behind (turn l.first)) (edits_of l.yielded)
