-- What is read so far, before what is left, comes to the whole.
use Rattle.std.proofs.Common.{◌≡◌, drop, map}
use Rattle.serde_json.specs.View.{items_view, members_view}
use Rattle.snap_core.specs.View.{view, entry}
use Rattle.snap_json.specs.Reading.{items_of, members_of, mapped}
use Rattle.snap_json.proofs.Steps.{items_before, members_before}
use Rattle.snap_json.proofs.read.+read.Given as goal

abbrev pub invariant-list_of-loop-index : goal.invariant-list_of-loop-index
invariant-list_of-loop-index l =
    items_of 0 (items_view l.items) ≡ mapped (items_before (map view l.list)) (items_of l.index (items_view (drop l.index l.items)))

abbrev pub invariant-fields_of-loop-key : goal.invariant-fields_of-loop-key
invariant-fields_of-loop-key l =
    members_of (members_view l.members.entries) ≡ mapped (members_before (map entry l.fields)) (members_of (members_view l.key-iterator))
