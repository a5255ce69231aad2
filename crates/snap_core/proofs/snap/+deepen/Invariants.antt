-- The deepest so far and the deepest of what is left make the deepest of all, up to the bound.
use Rattle.std.proofs.Common.{◌≡◌, ◌≤◌, max, min, drop}
use Rattle.snap_core.specs.Value.{parts_depth, members_depth}
use Rattle.snap_core.specs.View.{items_view, fields_view}
use Rattle.snap_core.proofs.snap.+deepen.Given as goal

abbrev pub invariant-deepest_item-loop-item : goal.invariant-deepest_item-loop-item
invariant-deepest_item-loop-item l =
    (l.deepest ≤ l.most)
    × (max l.deepest (min (parts_depth (items_view (drop l.item-index l.items))) l.most) ≡ min (parts_depth (items_view l.items)) l.most)

abbrev pub invariant-deepest_field-loop-field : goal.invariant-deepest_field-loop-field
invariant-deepest_field-loop-field l =
    (l.deepest ≤ l.most)
    × (max l.deepest (min (members_depth (fields_view (drop l.field-index l.fields))) l.most) ≡ min (members_depth (fields_view l.fields)) l.most)
