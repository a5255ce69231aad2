-- What is found is the first of all, or there is nothing here.
use Rattle.std.proofs.Common.{refl}
use Rattle.snap_core.specs.View.{items_view, fields_view}
use Rattle.schema_form.specs.Faults.{under, number_faults, items_numbers, members_numbers}
use Rattle.schema_form.proofs.Finding.{handed-on, items-found, fields-passed, fields-found}
use Rattle.schema_form.proofs.numbers.+numbers.Goals as goal

pub check_items-returns-in_err-at_index : goal.check_items-returns-in_err-at_index
check_items-returns-in_err-at_index t c =
    let e = c.in_err-at_index.field-0.0 in
    let whole = items_numbers 0 (items_view c.args.items.now) in
    handed-on e c.from_residual.result whole c.from_residual.ensures.1
    (items-found items_numbers number_faults (λ i v ps. refl) e whole c.args.items.now c.loop-index.index c.index-items-index.result
    c.loop-index-test.true c.index-items-index.is c.loop-index.invariant (c.in_err-at_index.ensures.finds _ c.check_numbers.ensures))

pub check_fields-returns-in_err-under : goal.check_fields-returns-in_err-under
check_fields-returns-in_err-under t c =
    let e = c.in_err-under.field-0.0 in
    let whole = members_numbers (fields_view c.args.fields.now) in
    handed-on e c.from_residual.result whole c.from_residual.ensures.1
    (fields-found members_numbers (λ k v. under k (number_faults v)) (λ k v ms. refl) e whole c.args.fields.now c.loop-field.field-index c.field-item.result
    c.loop-field-test.true c.field-item.is c.loop-field.invariant (rw c.text.ensures at (c.in_err-under.ensures.finds _ c.check_numbers.ensures)))

pub check_fields-loop-field-preserved : goal.check_fields-loop-field-preserved
check_fields-loop-field-preserved t c =
    fields-passed members_numbers (λ k v. under k (number_faults v)) (λ k v ms. refl) (members_numbers (fields_view c.args.fields.now)) c.args.fields.now c.loop-field.field-index c.field-item.result
    c.loop-field-test.true c.field-item.is c.loop-field.invariant (rw c.text.ensures at (c.in_ok-under.ensures.finds _ c.check_numbers.ensures))
