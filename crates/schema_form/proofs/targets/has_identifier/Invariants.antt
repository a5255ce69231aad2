use Rattle.std.proofs.Common.{◌≡◌, drop}
use Rattle.snap_core.specs.View.{fields_view}
use Rattle.schema_form.specs.Targets.{has_identifier}
use Rattle.schema_form.proofs.targets.has_identifier.Given as goal

abbrev pub invariant-loop-property : goal.invariant-loop-property
invariant-loop-property l = has_identifier (fields_view l.properties) ≡ has_identifier (fields_view (drop l.property-index l.properties))
