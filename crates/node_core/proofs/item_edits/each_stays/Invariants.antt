-- What is done so far, and what is left, are all.
use Rattle.std.proofs.Common.{◌≡◌, drop}
use Rattle.edit_core.specs.LoggedBetween as between
use Rattle.node_core.specs.View.{items}
use Rattle.node_core.specs.Olds.{olds_of}
use Rattle.node_core.proofs.item_edits.each_stays.Given as goal

abbrev pub invariant-loop-i : goal.invariant-loop-i
invariant-loop-i l = between.each_stays (olds_of (drop l.i l.olds)) (items (drop l.i l.news)) ≡ between.each_stays (olds_of l.olds) (items l.news)
