-- What is done so far, and what is left, are all.
use Rattle.std.proofs.Common.{◌≡◌, ◌++◌, map, take, drop, Some}
use Rattle.std.specs.Prelude.{slice_get}
use Rattle.snap_core.specs.View.{view}
use Rattle.edit_core.specs.Labelled.{Labelled}
use Rattle.edit_core.specs.Matching.{taken}
use Rattle.node_core.specs.View.{items}
use Rattle.reconcile_core.specs.Slots.{slot_values, slots_of, same_in}
use Rattle.reconcile_core.proofs.matching.take_first.Given as goal

abbrev pub invariant-loop-k : goal.invariant-loop-k
invariant-loop-k l =
    (l.slots ≡ l.initial.slots)
    × ((old : Labelled) → slice_get (items l.olds) l.fn.i ≡ Some old → taken (same_in l.types.table l.t) old (slots_of (map view l.news) (slot_values (items l.olds) l.slots))
    ≡ slots_of (map view (take l.k l.news)) (slot_values (items l.olds) (take l.k l.slots))
    ++ taken (same_in l.types.table l.t) old (slots_of (map view (drop l.k l.news)) (slot_values (items l.olds) (drop l.k l.slots))))
