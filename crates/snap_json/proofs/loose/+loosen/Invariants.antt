-- What was read so far, before what is left, comes to the whole.
use Rattle.std.proofs.Common.{◌≡◌, drop, map}
use Rattle.serde_json.specs.View.{items_view, members_view}
use Rattle.snap_core.specs.View.{view, entry}
use Rattle.snap_json.specs.Loose.{loose_items, loose_members}
use Rattle.snap_json.proofs.Steps.{items_before, members_before}
use Rattle.snap_json.proofs.loose.+loosen.Given as goal

abbrev pub invariant-loosened_items-loop-item : goal.invariant-loosened_items-loop-item
invariant-loosened_items-loop-item l = loose_items (items_view l.items) ≡ items_before (map view l.list) (loose_items (items_view (drop l.item-index l.items)))

abbrev pub invariant-loosened_fields-loop-key : goal.invariant-loosened_fields-loop-key
invariant-loosened_fields-loop-key l = loose_members (members_view l.members.entries) ≡ members_before (map entry l.fields) (loose_members (members_view l.key-iterator))
