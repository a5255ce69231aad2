-- What is made so far, and what is left, are the whole.
use Rattle.std.proofs.Common.{◌≡◌, ◌++◌, map, drop}
use Rattle.snap_core.specs.View.{view, entry}
use Rattle.node_core.specs.View.{plain_values, plain_entries}
use Rattle.node_core.proofs.+snapshot.Given as goal

abbrev pub invariant-plain::item_snapshots-loop-item : goal.invariant-plain::item_snapshots-loop-item
invariant-plain::item_snapshots-loop-item l = map view l.values ++ plain_values (drop l.item-index l.items) ≡ plain_values l.items

abbrev pub invariant-plain::field_snapshots-loop-field : goal.invariant-plain::field_snapshots-loop-field
invariant-plain::field_snapshots-loop-field l = map entry l.values ++ plain_entries (drop l.field-index l.fields) ≡ plain_entries l.fields
