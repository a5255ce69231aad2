-- What is left has all the faults, and the conditions that are still to come.
use Rattle.std.proofs.Common.{◌≡◌, ◌++◌, Some, drop}
use Rattle.snap_core.specs.View.{fields_view}
use Rattle.schema_form.specs.Faults.{member_faults, condition_faults}
use Rattle.schema_form.specs.Layout.{conditions_in}
use Rattle.schema_form.proofs.refinements.read_each.Given as goal

abbrev pub invariant-loop-field : goal.invariant-loop-field
invariant-loop-field l =
    (member_faults (condition_faults (Some l.base)) (fields_view l.fields) ≡ member_faults (condition_faults (Some l.base)) (fields_view (drop l.field-index l.fields)))
    × (conditions_in (Some l.base) (fields_view l.fields) ≡ l.conditions ++ conditions_in (Some l.base) (fields_view (drop l.field-index l.fields)))
