-- Whether the rest is equal decides of all.
use Rattle.std.proofs.Common.{◌≡◌, drop}
use Rattle.snap_core.specs.View.{items_view, fields_view}
use Rattle.edit_core.specs.Comparing.{are_equal, have_equal}
use Rattle.node_core.specs.View.{plain_items, plain_fields}
use Rattle.node_core.proofs.+equals.Given as goal

abbrev pub invariant-plain::equal_items-loop-i : goal.invariant-plain::equal_items-loop-i
invariant-plain::equal_items-loop-i l =
    are_equal (plain_items (drop l.i l.items)) (items_view (drop l.i l.values)) ≡ are_equal (plain_items l.items) (items_view l.values)

abbrev pub invariant-plain::equal_fields-loop-i : goal.invariant-plain::equal_fields-loop-i
invariant-plain::equal_fields-loop-i l =
    have_equal (plain_fields (drop l.i l.fields)) (fields_view (drop l.i l.values)) ≡ have_equal (plain_fields l.fields) (fields_view l.values)
