-- What is done so far, and what is left, are all.
use Rattle.std.proofs.Common.{◌≡◌, drop}
use Rattle.std.specs.List.{find}
use Rattle.edit_core.specs.Between.{stays}
use Rattle.node_core.specs.View.{labelled, items}
use Rattle.node_core.proofs.item_edits.same_among.Given as goal

abbrev pub invariant-loop-i : goal.invariant-loop-i
invariant-loop-i l = find (stays (labelled l.old)) (items (drop l.i l.news)) ≡ find (stays (labelled l.old)) (items l.news)
