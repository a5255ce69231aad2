-- What is left is read as all.
use Rattle.std.proofs.Common.{◌≡◌, drop}
use Rattle.snap_core.specs.View.{items_view, fields_view}
use Rattle.expr_form.specs.Numbers.{items_read, members_read}
use Rattle.expr_form.proofs.numbers.+numbers.Given as goal

abbrev pub invariant-check_items-loop-index : goal.invariant-check_items-loop-index
invariant-check_items-loop-index l = items_read 0 (items_view l.items) ≡ items_read l.index (items_view (drop l.index l.items))

abbrev pub invariant-check_fields-loop-field : goal.invariant-check_fields-loop-field
invariant-check_fields-loop-field l = members_read (fields_view l.fields) ≡ members_read (fields_view (drop l.field-index l.fields))
