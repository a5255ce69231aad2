-- What is done so far, and what is left, are all.
use Rattle.std.proofs.Common.{◌≡◌, map, drop}
use Rattle.snap_core.specs.View.{view}
use Rattle.edit_core.specs.Matching.{pairwise}
use Rattle.node_core.specs.View.{items}
use Rattle.reconcile_core.specs.Slots.{same_in}
use Rattle.reconcile_core.proofs.matching.pairwise.Given as goal

abbrev pub invariant-loop-i : goal.invariant-loop-i
invariant-loop-i l =
    pairwise (same_in l.types.table l.t) (items (drop l.i l.olds)) (map view (drop l.i l.news)) ≡ pairwise (same_in l.types.table l.t) (items l.olds) (map view l.news)
