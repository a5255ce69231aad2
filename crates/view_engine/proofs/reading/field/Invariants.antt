-- What is left has the value that all has.
use Rattle.std.proofs.Common.{◌≡◌, drop}
use Rattle.snap_core.specs.Value.{value_at}
use Rattle.snap_core.specs.View.{fields_view}
use Rattle.view_engine.proofs.reading.field.Given as goal

abbrev pub invariant-loop-field : goal.invariant-loop-field
invariant-loop-field l = value_at l.name (fields_view (drop l.field-index l.fields)) ≡ value_at l.name (fields_view l.fields)
