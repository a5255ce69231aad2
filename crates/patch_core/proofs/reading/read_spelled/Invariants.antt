-- What is read so far, and then what is left, are what is spelled.
use Rattle.std.proofs.Common.{◌≡◌, ◌++◌, drop, map, None}
use Rattle.std.specs.Prelude.{All}
use Rattle.std.specs.Option.{option_map}
use Rattle.snap_core.specs.Value.{AreOrdered}
use Rattle.snap_core.specs.View.{items_view}
use Rattle.patch_core.specs.Reading.{spellings_of, spelling_for}
use Rattle.patch_core.proofs.reading.read_spelled.Given as goal

abbrev pub invariant-loop-item : goal.invariant-loop-item
invariant-loop-item l = record {
  ordered : AreOrdered (items_view (drop l.item-index l.items));
  spelled : option_map (λ rest. map spelling_for l.patches ++ rest) (spellings_of (items_view (drop l.item-index l.items))) ≡ spellings_of (items_view l.items);
  no_old : All (λ p. p.old ≡ None) l.patches;
}
