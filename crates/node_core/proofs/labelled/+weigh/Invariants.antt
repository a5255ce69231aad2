-- What is weighed so far, and what is left, weigh as much as the whole, up to the bound.
use Rattle.std.proofs.Common.{◌≡◌, ◌+◌, ◌≤◌, min, drop}
use Rattle.snap_core.specs.Value.{parts_weight, members_weight}
use Rattle.node_core.specs.View.{plain_items, plain_fields}
use Rattle.node_core.proofs.labelled.+weigh.Given as goal

abbrev pub invariant-weigh_items-loop-item : goal.invariant-weigh_items-loop-item
invariant-weigh_items-loop-item l =
    (l.sum ≤ l.most)
    × (min (l.sum + parts_weight (plain_items (drop l.item-index l.items))) l.most ≡ min (1 + parts_weight (plain_items l.items)) l.most)

abbrev pub invariant-weigh_fields-loop-field : goal.invariant-weigh_fields-loop-field
invariant-weigh_fields-loop-field l =
    (l.sum ≤ l.most)
    × (min (l.sum + members_weight (plain_fields (drop l.field-index l.fields))) l.most ≡ min (1 + members_weight (plain_fields l.fields)) l.most)
