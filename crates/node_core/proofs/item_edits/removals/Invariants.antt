-- What is done so far, and what is left, are all.
use Rattle.std.proofs.Common.{◌≡◌, ◌-◌, ◌++◌, drop, length}
use Rattle.edit_core.specs.LoggedBetween.{logged_removals}
use Rattle.node_core.specs.View.{items, edits_of}
use Rattle.node_core.specs.Olds.{remaining}
use Rattle.node_core.proofs.item_edits.removals.Given as goal

abbrev pub invariant-loop-done : goal.invariant-loop-done
invariant-loop-done l =
    edits_of l.edits ≡ edits_of l.initial.edits ++ logged_removals (length l.olds - l.done) (remaining (items l.news) (drop (length l.olds - l.done) l.olds))
