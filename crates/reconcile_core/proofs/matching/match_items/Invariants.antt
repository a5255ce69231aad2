-- What is done so far, and what is left, are all.
use Rattle.std.proofs.Common.{◌≡◌, map, drop, length}
use Rattle.snap_core.specs.View.{view}
use Rattle.edit_core.specs.Matching.{all_taken, open_slot}
use Rattle.node_core.specs.View.{items}
use Rattle.reconcile_core.specs.Slots.{slot_values, slots_of, same_in}
use Rattle.reconcile_core.proofs.matching.match_items.Given as goal

abbrev pub invariant-loop-i : goal.invariant-loop-i
invariant-loop-i l =
    (length l.slots ≡ length l.news)
    × (all_taken (same_in l.types.table l.t) (items (drop l.i l.olds)) (slots_of (map view l.news) (slot_values (items l.olds) l.slots))
    ≡ all_taken (same_in l.types.table l.t) (items l.olds) (map open_slot (map view l.news)))
