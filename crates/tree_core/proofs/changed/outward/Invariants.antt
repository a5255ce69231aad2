-- The edits so far.
use Rattle.std.proofs.Common.{◌≡◌, map, take}
use Rattle.node_core.specs.View.{way, edits_of}
use Rattle.tree_core.specs.Changed.{outward}
use Rattle.tree_core.proofs.changed.outward.Given as goal

abbrev pub invariant-loop-edit : goal.invariant-loop-edit
invariant-loop-edit l = edits_of l.moved ≡ map (outward (way l.place)) (edits_of (take l.edit-index l.edit-items))
