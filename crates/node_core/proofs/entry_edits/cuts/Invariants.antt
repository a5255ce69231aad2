-- What is done so far, and what is left, are all.
use Rattle.std.proofs.Common.{◌≡◌, ◌++◌, drop}
use Rattle.edit_core.specs.LoggedBetween.{logged_cuts}
use Rattle.node_core.specs.View.{edits_of}
use Rattle.node_core.specs.Olds.{old_fields_of}
use Rattle.node_core.proofs.entry_edits.cuts.Given as goal

abbrev pub invariant-loop-i : goal.invariant-loop-i
invariant-loop-i l = edits_of l.edits ++ logged_cuts l.at (old_fields_of (drop l.i l.olds)) ≡ edits_of l.initial.edits ++ logged_cuts l.at (old_fields_of l.olds)
