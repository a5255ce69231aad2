-- What is left has all the faults.
use Rattle.std.proofs.Common.{◌≡◌, drop}
use Rattle.snap_core.specs.View.{items_view, fields_view}
use Rattle.schema_form.specs.Faults.{items_numbers, members_numbers}
use Rattle.schema_form.proofs.numbers.+numbers.Given as goal

abbrev pub invariant-check_items-loop-index : goal.invariant-check_items-loop-index
invariant-check_items-loop-index l = items_numbers 0 (items_view l.items) ≡ items_numbers l.index (items_view (drop l.index l.items))

abbrev pub invariant-check_fields-loop-field : goal.invariant-check_fields-loop-field
invariant-check_fields-loop-field l = members_numbers (fields_view l.fields) ≡ members_numbers (fields_view (drop l.field-index l.fields))
