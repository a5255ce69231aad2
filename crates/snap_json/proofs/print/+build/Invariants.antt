-- What is built so far, before what is left, comes to the whole.
use Rattle.std.proofs.Common.{◌≡◌, drop, take, map}
use Rattle.serde_json.specs.Data.{no_members}
use Rattle.serde_json.specs.View.{view as data_view}
use Rattle.serde_json.specs.View.{members_view}
use Rattle.snap_core.specs.View.{view, fields_view}
use Rattle.snap_json.specs.Printing.{built_of, members_built}
use Rattle.snap_json.proofs.print.+build.Given as goal

abbrev pub invariant-array_of-loop-item : goal.invariant-array_of-loop-item
invariant-array_of-loop-item l = map data_view l.array.items ≡ map (λ s. built_of (view s)) (take l.item-index l.item-items)

abbrev pub invariant-object_of-loop-field : goal.invariant-object_of-loop-field
invariant-object_of-loop-field l = members_built (fields_view (drop l.field-index l.field-items)) (members_view l.object.entries) ≡ members_built (fields_view l.field-items) no_members
