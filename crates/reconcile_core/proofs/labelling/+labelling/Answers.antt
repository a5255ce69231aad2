-- Each case by its template; and what each item and each field adds.
use Rattle.std.proofs.Common.{◌≡◌, ◌∙◌, ◌+◌, [], ◌∷◌, ◌++◌, drop, IfOk, OnOk, refl, sym, ap, subst, arith}
use Rattle.std.proofs.Math.ListN.{drop_of_length-le}
use Rattle.std.specs.Option.{option_map, option_copied}
use Rattle.snap_core.specs.View.{view}
use Rattle.edit_core.specs.Template.{Template, numbered, new_count, entry_at}
use Rattle.node_core.specs.View.{labelled, items, fields}
use Rattle.reconcile_core.specs.RealTypes.{type_under}
use Rattle.reconcile_core.specs.Labelling.{rules_of, template_of, array_type, record_kind}
use Rattle.reconcile_core.specs.Slots.{slot_values}
use Rattle.reconcile_core.proofs.Plainness.{plain-item, plain-field, plain-list, plain-dict, list-weighs, dict-weighs, item-weighs, field-weighs}
use Rattle.reconcile_core.proofs.Labellings.{array-told, array-leaf, record-told, record-leaf, leaf-value, leaf-next, items-from, fields-from, item-more, field-more, items-push, fields-push, array-done, record-done}
use Rattle.reconcile_core.proofs.labelling.+labelling.Goals as goal

pub label_value-returns-in-Some-clause-value : goal.label_value-returns-in-Some-clause-value
label_value-returns-in-Some-clause-value t c = let all = rw c.in-Some.is at c.in_ok-kept.ensures.kept in (all c.args.types.now.table c.args.t.0 c.args.next.now).0

pub label_value-returns-in-Some-clause-next : goal.label_value-returns-in-Some-clause-next
label_value-returns-in-Some-clause-next t c =
    let all = rw c.in-Some.is at c.in_ok-kept.ensures.kept in
    let none : new_count (template_of c.args.types.now.table c.args.t.0 (option_map labelled (option_copied c.args.old)) (view c.args.new.now)) ≡ 0 = (all c.args.types.now.table c.args.t.0 c.args.next.now).1 in
    omega (arith, none)

pub label_value-returns-in-Some-array_type-clause-value : goal.label_value-returns-in-Some-array_type-clause-value
label_value-returns-in-Some-array_type-clause-value t c =
    let P : Template → Type 0 = λ x. IfOk c.label_array.result (λ value. labelled value ≡ numbered c.args.next.now x) in
    subst P
    (array-told c.args.types.now.table c.args.t.0 (option_map labelled (option_copied c.args.old)) _ c.args.new.now c.in-List.news _ c.in-Some-array_type.u c.in-List.is
    (ap array_type (sym c.kind_of-kind.ensures) ∙ sym c.array_type.ensures ∙ c.in-Some-array_type.is)
    ((rw c.in_default.is at c.in_ok-kept.ensures.changed) c.args.types.now.table c.args.t.0) c.standing-stays.ensures c.as_slice.ensures)
    c.label_array.ensures.value

pub label_value-returns-in-Some-array_type-clause-next : goal.label_value-returns-in-Some-array_type-clause-next
label_value-returns-in-Some-array_type-clause-next t c =
    let P : Template → Type 0 = λ x. OnOk c.label_array.result (c.label_array.new.next ≡ c.args.next.now + new_count x) in
    subst P
    (array-told c.args.types.now.table c.args.t.0 (option_map labelled (option_copied c.args.old)) _ c.args.new.now c.in-List.news _ c.in-Some-array_type.u c.in-List.is
    (ap array_type (sym c.kind_of-kind.ensures) ∙ sym c.array_type.ensures ∙ c.in-Some-array_type.is)
    ((rw c.in_default.is at c.in_ok-kept.ensures.changed) c.args.types.now.table c.args.t.0) c.standing-stays.ensures c.as_slice.ensures)
    c.label_array.ensures.next

pub label_value-returns-in_ok-clone_in-in-None-clause-value : goal.label_value-returns-in_ok-clone_in-in-None-clause-value
label_value-returns-in_ok-clone_in-in-None-clause-value t c =
    leaf-value c.args.new.now c.in_ok-clone_in-in-None.field-0 c.args.next.now _ c.in_ok-clone_in-in-None.ensures
    (array-leaf c.args.types.now.table c.args.t.0 (option_map labelled (option_copied c.args.old)) c.args.new.now c.in-List.news c.in-List.is
    (ap array_type (sym c.kind_of-kind.ensures) ∙ sym c.array_type.ensures ∙ c.in-None.is)
    ((rw c.in_default.is at c.in_ok-kept.ensures.changed) c.args.types.now.table c.args.t.0))

pub label_value-returns-in_ok-clone_in-in-None-clause-next : goal.label_value-returns-in_ok-clone_in-in-None-clause-next
label_value-returns-in_ok-clone_in-in-None-clause-next t c =
    leaf-next c.args.new.now c.args.next.now _
    (array-leaf c.args.types.now.table c.args.t.0 (option_map labelled (option_copied c.args.old)) c.args.new.now c.in-List.news c.in-List.is
    (ap array_type (sym c.kind_of-kind.ensures) ∙ sym c.array_type.ensures ∙ c.in-None.is)
    ((rw c.in_default.is at c.in_ok-kept.ensures.changed) c.args.types.now.table c.args.t.0))

pub label_array-loop-i-init : goal.label_array-loop-i-init
label_array-loop-i-init t c = record { told = rw c.new-parts.ensures refl; count = refl }

pub label_array-loop-i-preserved : goal.label_array-loop-i-preserved
label_array-loop-i-preserved t c =
    item-more (items c.loop-i.parts) _ (labelled c.in_ok-label_value.field-0) c.loop-i.next _ _ _ _ _ _ c.loop-i.invariant
    (items-from (rules_of c.args.types.now.table) c.args.news.now c.args.u.0 (slot_values (items c.items_under-olds.result.now) c.in_ok-slots.slots) c.loop-i.i c.index-news-i.result c.index-news-i.is c.loop-i-test.true)
    (rw c.slot_at-old.ensures at c.in_ok-label_value.ensures.value) (rw c.slot_at-old.ensures at c.in_ok-label_value.ensures.next) (ap items c.in_ok-push.ensures.ok ∙ items-push c.loop-i.parts c.in_ok-label_value.field-0)

pub label_array-returns-clause-value : goal.label_array-returns-clause-value
label_array-returns-clause-value t c =
    let none : drop c.loop-i.i c.args.news.now ≡ [] = drop_of_length-le c.args.news.now c.loop-i-test.false in
    (array-done c.args.types.now.table c.args.u (option_map labelled (option_copied c.args.stays)) c.args.news.now c.in_ok-label.label c.loop-i.parts c.args.next.now _ _ _ _ _
    c.in_ok-label.ensures.label c.in_ok-label.ensures.next c.items_under-olds.ensures c.in_ok-slots.ensures c.loop-i.invariant (rw none refl)).0

pub label_array-returns-clause-next : goal.label_array-returns-clause-next
label_array-returns-clause-next t c =
    let none : drop c.loop-i.i c.args.news.now ≡ [] = drop_of_length-le c.args.news.now c.loop-i-test.false in
    (array-done c.args.types.now.table c.args.u (option_map labelled (option_copied c.args.stays)) c.args.news.now c.in_ok-label.label c.loop-i.parts c.args.next.now _ _ _ _ _
    c.in_ok-label.ensures.label c.in_ok-label.ensures.next c.items_under-olds.ensures c.in_ok-slots.ensures c.loop-i.invariant (rw none refl)).1

pub label_value-returns-in-Some-record_kind-clause-value : goal.label_value-returns-in-Some-record_kind-clause-value
label_value-returns-in-Some-record_kind-clause-value t c =
    let P : Template → Type 0 = λ x. IfOk c.label_record.result (λ value. labelled value ≡ numbered c.args.next.now x) in
    subst P
    (record-told c.args.types.now.table c.args.t.0 (option_map labelled (option_copied c.args.old)) _ c.args.new.now c.in-Dict.news _ c.in-Some-record_kind.kind c.in-Dict.is
    (ap record_kind (sym c.kind_of-kind.ensures) ∙ sym c.record_kind.ensures ∙ c.in-Some-record_kind.is)
    ((rw c.in_default.is at c.in_ok-kept.ensures.changed) c.args.types.now.table c.args.t.0) c.standing-stays-in-Some-record_kind.ensures c.as_slice-in-Some-record_kind.ensures)
    c.label_record.ensures.value

pub label_value-returns-in-Some-record_kind-clause-next : goal.label_value-returns-in-Some-record_kind-clause-next
label_value-returns-in-Some-record_kind-clause-next t c =
    let P : Template → Type 0 = λ x. OnOk c.label_record.result (c.label_record.new.next ≡ c.args.next.now + new_count x) in
    subst P
    (record-told c.args.types.now.table c.args.t.0 (option_map labelled (option_copied c.args.old)) _ c.args.new.now c.in-Dict.news _ c.in-Some-record_kind.kind c.in-Dict.is
    (ap record_kind (sym c.kind_of-kind.ensures) ∙ sym c.record_kind.ensures ∙ c.in-Some-record_kind.is)
    ((rw c.in_default.is at c.in_ok-kept.ensures.changed) c.args.types.now.table c.args.t.0) c.standing-stays-in-Some-record_kind.ensures c.as_slice-in-Some-record_kind.ensures)
    c.label_record.ensures.next

pub label_value-returns-in_ok-clone_in-in-None-record_kind-clause-value : goal.label_value-returns-in_ok-clone_in-in-None-record_kind-clause-value
label_value-returns-in_ok-clone_in-in-None-record_kind-clause-value t c =
    leaf-value c.args.new.now c.in_ok-clone_in-in-None-record_kind.field-0 c.args.next.now _ c.in_ok-clone_in-in-None-record_kind.ensures
    (record-leaf c.args.types.now.table c.args.t.0 (option_map labelled (option_copied c.args.old)) c.args.new.now c.in-Dict.news c.in-Dict.is
    (ap record_kind (sym c.kind_of-kind.ensures) ∙ sym c.record_kind.ensures ∙ c.in-None-record_kind.is)
    ((rw c.in_default.is at c.in_ok-kept.ensures.changed) c.args.types.now.table c.args.t.0))

pub label_value-returns-in_ok-clone_in-in-None-record_kind-clause-next : goal.label_value-returns-in_ok-clone_in-in-None-record_kind-clause-next
label_value-returns-in_ok-clone_in-in-None-record_kind-clause-next t c =
    leaf-next c.args.new.now c.args.next.now _
    (record-leaf c.args.types.now.table c.args.t.0 (option_map labelled (option_copied c.args.old)) c.args.new.now c.in-Dict.news c.in-Dict.is
    (ap record_kind (sym c.kind_of-kind.ensures) ∙ sym c.record_kind.ensures ∙ c.in-None-record_kind.is)
    ((rw c.in_default.is at c.in_ok-kept.ensures.changed) c.args.types.now.table c.args.t.0))

pub label_record-loop-i-init : goal.label_record-loop-i-init
label_record-loop-i-init t c = record { told = rw c.new-parts.ensures refl; count = refl }

pub label_record-loop-i-preserved : goal.label_record-loop-i-preserved
label_record-loop-i-preserved t c =
    let of : c.type_under-t.result.0 ≡ type_under c.args.types.now.table c.args.kind c.index-news-i.result.key =
    c.type_under-t.ensures ∙ ap (type_under c.args.types.now.table c.args.kind) (c.text.ensures ∙ c.in_ok-key.ensures) in
    let under : option_map labelled (option_copied c.entry_under-old.result) ≡ entry_at c.index-news-i.result.key (fields c.fields_under-olds.result.now) =
    c.entry_under-old.ensures ∙ ap (λ key. entry_at key (fields c.fields_under-olds.result.now)) (c.text-in-loop-i.ensures ∙ c.in_ok-key.ensures) in
    field-more (fields c.loop-i.parts) _ c.index-news-i.result.key (labelled c.in_ok-value.value) c.loop-i.next _ _ _ _ _ _ c.loop-i.invariant
    (fields-from (rules_of c.args.types.now.table) c.args.news.now c.args.kind (fields c.fields_under-olds.result.now) c.loop-i.i c.index-news-i.result c.index-news-i.is c.loop-i-test.true)
    (rw (of, under) at c.in_ok-value.ensures.value)
    (rw (of, under) at c.in_ok-value.ensures.next)
    (ap fields c.in_ok-push.ensures.ok ∙ fields-push c.loop-i.parts _ ∙ ap (λ key. fields c.loop-i.parts ++ (key, labelled c.in_ok-value.value) ∷ []) (c.in_ok-key.ensures))

pub label_record-returns-clause-value : goal.label_record-returns-clause-value
label_record-returns-clause-value t c =
    let none : drop c.loop-i.i c.args.news.now ≡ [] = drop_of_length-le c.args.news.now c.loop-i-test.false in
    (record-done c.args.types.now.table c.args.kind (option_map labelled (option_copied c.args.stays)) c.args.news.now c.in_ok-label.label c.loop-i.parts c.args.next.now _ _ _ _
    c.in_ok-label.ensures.label c.in_ok-label.ensures.next c.fields_under-olds.ensures c.loop-i.invariant (rw none refl)).0

pub label_record-returns-clause-next : goal.label_record-returns-clause-next
label_record-returns-clause-next t c =
    let none : drop c.loop-i.i c.args.news.now ≡ [] = drop_of_length-le c.args.news.now c.loop-i-test.false in
    (record-done c.args.types.now.table c.args.kind (option_map labelled (option_copied c.args.stays)) c.args.news.now c.in_ok-label.label c.loop-i.parts c.args.next.now _ _ _ _
    c.in_ok-label.ensures.label c.in_ok-label.ensures.next c.fields_under-olds.ensures c.loop-i.invariant (rw none refl)).1

pub label_value-label_array-requires : goal.label_value-label_array-requires
label_value-label_array-requires t c = (
  omega (arith, c.decreases, list-weighs c.args.new.now c.in-List.news c.as_slice.result.now c.in-List.is c.as_slice.ensures),
  rw c.as_slice.ensures (plain-list c.in-List.news (rw c.in-List.is at c.requires.plain)),
)

pub label_value-label_record-requires : goal.label_value-label_record-requires
label_value-label_record-requires t c = (
  omega (arith, c.decreases, dict-weighs c.args.new.now c.in-Dict.news c.as_slice-in-Some-record_kind.result.now c.in-Dict.is c.as_slice-in-Some-record_kind.ensures),
  rw c.as_slice-in-Some-record_kind.ensures (plain-dict c.in-Dict.news (rw c.in-Dict.is at c.requires.plain)),
)

pub label_array-label_value-requires : goal.label_array-label_value-requires
label_array-label_value-requires t c = (
  omega (arith, c.decreases, item-weighs c.args.news.now c.loop-i.i c.index-news-i.result c.index-news-i.is c.loop-i-test.true),
  plain-item c.args.news.now c.loop-i.i c.index-news-i.result c.requires.plain c.index-news-i.is c.loop-i-test.true,
)

pub label_record-label_value-requires : goal.label_record-label_value-requires
label_record-label_value-requires t c = (
  omega (arith, c.decreases, field-weighs c.args.news.now c.loop-i.i c.index-news-i.result c.index-news-i.is c.loop-i-test.true),
  plain-field c.args.news.now c.loop-i.i c.index-news-i.result c.requires.plain c.index-news-i.is c.loop-i-test.true,
)
