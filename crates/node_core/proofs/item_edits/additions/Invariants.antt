-- What is done so far, and what is left, are all.
use Rattle.std.proofs.Common.{◌≡◌, ◌++◌, drop}
use Rattle.edit_core.specs.LoggedBetween.{logged_additions}
use Rattle.node_core.specs.View.{items, edits_of}
use Rattle.node_core.proofs.item_edits.additions.Given as goal

abbrev pub invariant-loop-i : goal.invariant-loop-i
invariant-loop-i l = edits_of l.edits ++ logged_additions l.i (items (drop l.i l.news)) ≡ edits_of l.initial.edits ++ logged_additions 0 (items l.news)
