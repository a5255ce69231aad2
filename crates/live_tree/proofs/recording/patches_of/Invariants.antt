-- The patches so far.
use Rattle.std.proofs.Common.{◌≡◌, map, take}
use Rattle.edit_core.specs.Logged.{patch_of_logged}
use Rattle.node_core.specs.View.{edits_of}
use Rattle.live_tree.proofs.recording.patches_of.Given as goal

abbrev pub invariant-loop-edit : goal.invariant-loop-edit
invariant-loop-edit l = l.patches ≡ map patch_of_logged (edits_of (take l.edit-index l.edits))
