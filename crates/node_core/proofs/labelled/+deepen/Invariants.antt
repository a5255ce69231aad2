-- The deepest so far and the deepest of what is left make the deepest of all, up to the bound.
use Rattle.std.proofs.Common.{◌≡◌, ◌≤◌, max, min, drop}
use Rattle.snap_core.specs.Value.{parts_depth, members_depth}
use Rattle.node_core.specs.View.{plain_items, plain_fields}
use Rattle.node_core.proofs.labelled.+deepen.Given as goal

abbrev pub invariant-deepest_item-loop-item : goal.invariant-deepest_item-loop-item
invariant-deepest_item-loop-item l =
    (l.deepest ≤ l.most)
    × (max l.deepest (min (parts_depth (plain_items (drop l.item-index l.items))) l.most) ≡ min (parts_depth (plain_items l.items)) l.most)

abbrev pub invariant-deepest_field-loop-field : goal.invariant-deepest_field-loop-field
invariant-deepest_field-loop-field l =
    (l.deepest ≤ l.most)
    × (max l.deepest (min (members_depth (plain_fields (drop l.field-index l.fields))) l.most) ≡ min (members_depth (plain_fields l.fields)) l.most)
