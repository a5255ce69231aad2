-- What is found so far stands before what is still to come.
use Rattle.std.proofs.Common.{◌≡◌, ◌≤◌, ◌++◌, drop}
use Rattle.snap_core.specs.View.{fields_view}
use Rattle.schema_form.specs.Targets.{targets_from}
use Rattle.schema_form.proofs.targets.targets_of.Given as goal

abbrev pub invariant-loop-field : goal.invariant-loop-field
invariant-loop-field l = record {
  few : l.models ≤ l.field-index;
  found : targets_from 0 (fields_view l.types) ≡ l.targets.items ++ targets_from l.models (fields_view (drop l.field-index l.types));
}
