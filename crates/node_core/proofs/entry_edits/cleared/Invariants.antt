-- What is done so far, and what is left, are all.
use Rattle.std.proofs.Common.{◌≡◌, ◌≤◌, ◌++◌, drop, length}
use Rattle.edit_core.specs.LoggedBetween.{logged_cleared}
use Rattle.node_core.specs.View.{fields, edits_of}
use Rattle.node_core.specs.Olds.{old_fields_of}
use Rattle.node_core.proofs.entry_edits.cleared.Given as goal

abbrev pub invariant-loop-i : goal.invariant-loop-i
invariant-loop-i l =
    (l.from ≤ length l.olds)
    × (edits_of l.edits ++ logged_cleared l.i (old_fields_of (drop l.from l.olds)) (fields (drop l.i l.news)) ≡ edits_of l.initial.edits ++ logged_cleared 0 (old_fields_of l.olds) (fields l.news))
