-- All are spelled where those that are left are.
use Rattle.std.proofs.Common.{◌≡◌, drop}
use Rattle.std.specs.Prelude.{is_some}
use Rattle.snap_core.specs.Value.{AreOrdered}
use Rattle.snap_core.specs.View.{items_view}
use Rattle.patch_core.specs.Reading.{spellings_of}
use Rattle.patch_core.proofs.reading.are_spelled.Given as goal

abbrev pub invariant-loop-item : goal.invariant-loop-item
invariant-loop-item l =
    AreOrdered (items_view (drop l.item-index l.items))
    × (is_some (spellings_of (items_view (drop l.item-index l.items))) ≡ is_some (spellings_of (items_view l.items)))
