-- What is told of a part is told of all, or the part is in order and the rest is all.
use Rattle.std.proofs.Common.{◌+◌, Ok, Err, decimal, drop, refl, ◌∙◌}
use Rattle.snap_core.specs.View.{view, items_view, fields_view}
use Rattle.expr_form.specs.Outcome.{at, under}
use Rattle.expr_form.specs.Numbers.{behind, numbers_read, items_read, members_read}
use Rattle.expr_form.proofs.Telling.{tells-lowered}
use Rattle.expr_form.proofs.Walking.{items-step, fields-step}
use Rattle.expr_form.proofs.Numbering.{found-first, passed-first}
use Rattle.expr_form.proofs.numbers.+numbers.Goals as goal

pub check_items-returns-in_err-at_index : goal.check_items-returns-in_err-at_index
check_items-returns-in_err-at_index t c =
    let e = c.in_err-at_index.field-0.0 in
    let items = c.args.items.now in
    let i = c.loop-index.index in
    let v = c.index-items-index.result in
    found-first (Unit {0}) e c.from_residual.result (at i (numbers_read (view v))) (items_read (i + 1) (items_view (drop (i + 1) items))) (items_read 0 (items_view items)) c.from_residual.ensures.1
    (c.loop-index.invariant ∙ items-step items_read (λ i v rest. behind (at i (numbers_read v)) rest) (λ i v ps. refl) items i v c.loop-index-test.true c.index-items-index.is)
    (tells-lowered (λ u. tt) (decimal i) c.check_numbers.result (Err e) (numbers_read (view v)) c.in_err-at_index.ensures c.check_numbers.ensures)

pub check_fields-returns-in_err-under : goal.check_fields-returns-in_err-under
check_fields-returns-in_err-under t c =
    let e = c.in_err-under.field-0.0 in
    let fields = c.args.fields.now in
    let i = c.loop-field.field-index in
    let f = c.field-item.result in
    found-first (Unit {0}) e c.from_residual.result (under f.key (numbers_read (view f.value))) (members_read (fields_view (drop (i + 1) fields))) (members_read (fields_view fields)) c.from_residual.ensures.1
    (c.loop-field.invariant ∙ fields-step members_read (λ k v rest. behind (under k (numbers_read v)) rest) (λ k v ms. refl) fields i f c.loop-field-test.true c.field-item.is)
    (tells-lowered (λ u. tt) f.key c.check_numbers.result (Err e) (numbers_read (view f.value)) (rw c.text.ensures at c.in_err-under.ensures) c.check_numbers.ensures)

pub check_items-loop-index-preserved : goal.check_items-loop-index-preserved
check_items-loop-index-preserved t c =
    let items = c.args.items.now in
    let i = c.loop-index.index in
    let v = c.index-items-index.result in
    passed-first (at i (numbers_read (view v))) (items_read (i + 1) (items_view (drop (i + 1) items))) (items_read 0 (items_view items))
    (c.loop-index.invariant ∙ items-step items_read (λ i v rest. behind (at i (numbers_read v)) rest) (λ i v ps. refl) items i v c.loop-index-test.true c.index-items-index.is)
    (tells-lowered (λ u. tt) (decimal i) c.check_numbers.result (Ok c.in_ok-at_index.field-0) (numbers_read (view v)) c.in_ok-at_index.ensures c.check_numbers.ensures)

pub check_fields-loop-field-preserved : goal.check_fields-loop-field-preserved
check_fields-loop-field-preserved t c =
    let fields = c.args.fields.now in
    let i = c.loop-field.field-index in
    let f = c.field-item.result in
    passed-first (under f.key (numbers_read (view f.value))) (members_read (fields_view (drop (i + 1) fields))) (members_read (fields_view fields))
    (c.loop-field.invariant ∙ fields-step members_read (λ k v rest. behind (under k (numbers_read v)) rest) (λ k v ms. refl) fields i f c.loop-field-test.true c.field-item.is)
    (tells-lowered (λ u. tt) f.key c.check_numbers.result (Ok c.in_ok-under.field-0) (numbers_read (view f.value)) (rw c.text.ensures at c.in_ok-under.ensures) c.check_numbers.ensures)
