-- A change inside an item or a field, and the items and fields that are left as they were.
use Rattle.std.proofs.Common.{◌≡◌, ◌∙◌, List, Some, None, length, sym, ap, subst, arith}
use Rattle.snap_core.specs.Value.{AreKeyed}
use Rattle.snap_core.specs.View.{fields_view}
use Rattle.snap_core.specs.declared.snap.Field.{Field}
use Rattle.patch_core.specs.Place.{index_below}
use Rattle.patch_core.proofs.InPlace.{keyed_from_ordered, in_item, no_item, item_kept, item_ordered, in_found_field, field_ordered, field_kept}
use Rattle.patch_core.proofs.application.+change.Goals as goal

pub change_field-position-requires : goal.change_field-position-requires
change_field-position-requires t c =
    let P : List Field → Type 0 = λ fs. AreKeyed (fields_view fs) in
    subst P (sym c.as_slice.ensures) (keyed_from_ordered _ c.requires.1.1.0)

pub change_field-change-requires : goal.change_field-change-requires
change_field-change-requires t c =
    (omega (arith, c.requires.1.0), (field_ordered c.args.key.now c.args.fields.now c.as_slice.result.now c.in-Some.at c.item_mut.result.now c.requires.1.1.0 c.as_slice.ensures c.item_mut.ensures.value c.in-Some.ensures.found, c.requires.1.1.1))

pub change_field-returns-in-Some-clause-outcome : goal.change_field-returns-in-Some-clause-outcome
change_field-returns-in-Some-clause-outcome t c =
    in_found_field c.args.key.now c.args.fields.now c.as_slice.result.now c.in-Some.at c.item_mut.result.now c.change.new.target _ c.change.result c.requires.1.1.0 c.as_slice.ensures c.item_mut.ensures.value c.in-Some.ensures.key c.in-Some.ensures.found c.change.ensures.outcome

pub change_field-returns-in-Some-clause-unchanged : goal.change_field-returns-in-Some-clause-unchanged
change_field-returns-in-Some-clause-unchanged t c =
    field_kept c.args.fields.now c.in-Some.at c.item_mut.result.now c.change.new.target c.change.result c.item_mut.ensures.value c.change.ensures.unchanged

pub change_item-change-requires : goal.change_item-change-requires
change_item-change-requires t c =
    (omega (arith, c.requires.1.0), (item_ordered c.args.items.now c.in-Some.at c.item_mut.result.now c.requires.1.1.0 c.item_mut.ensures.value, c.requires.1.1.1))

pub change_item-returns-in-Some-clause-outcome : goal.change_item-returns-in-Some-clause-outcome
change_item-returns-in-Some-clause-outcome t c =
    let place : index_below (length c.args.items.now) c.args.token.now ≡ Some c.in-Some.at = ap (λ n. index_below n c.args.token.now) (sym c.len.ensures) ∙ sym c.index_below.ensures.index ∙ c.in-Some.is in
    in_item c.args.token.now c.args.items.now c.in-Some.at c.item_mut.result.now c.change.new.target _ c.change.result place c.item_mut.ensures.value c.change.ensures.outcome

pub change_item-returns-in-Some-clause-unchanged : goal.change_item-returns-in-Some-clause-unchanged
change_item-returns-in-Some-clause-unchanged t c =
    item_kept c.args.items.now c.in-Some.at c.item_mut.result.now c.change.new.target c.change.result c.item_mut.ensures.value c.change.ensures.unchanged

pub change_item-returns-in-None-clause-outcome : goal.change_item-returns-in-None-clause-outcome
change_item-returns-in-None-clause-outcome t c =
    let place : index_below (length c.args.items.now) c.args.token.now ≡ None = ap (λ n. index_below n c.args.token.now) (sym c.len.ensures) ∙ sym c.index_below.ensures.index ∙ c.in-None.is in
    λ other. no_item c.args.token.now c.args.items.now _ place
