use Rattle.std.proofs.Common.{◌≡◌, ◌∙◌, [], drop, sym, arith}
use Rattle.std.proofs.Math.ListN.{drop_of_length-le}
use Rattle.node_core.proofs.Views.{labelled-Leaf}
use Rattle.node_core.proofs.PlainValues.{told_equal, items_of_other_length, fields_of_other_length, items_from, fields_from, ends_false, goes_on}
use Rattle.node_core.proofs.+equals.Goals as goal

pub labelled::Labelled::equals-returns-in-Leaf-default : goal.labelled::Labelled::equals-returns-in-Leaf-default
labelled::Labelled::equals-returns-in-Leaf-default t c = rw (c.in-Leaf-default.is-0, labelled-Leaf c.in-Leaf-default.own) (told_equal c.equal.result c.in-Leaf-default.own c.args.value.now c.equal.ensures)

pub plain::equal_fields-returns-then-fields-values : goal.plain::equal_fields-returns-then-fields-values
plain::equal_fields-returns-then-fields-values t c = fields_of_other_length c.args.fields.now c.args.values.now c.if-fields-values.true

pub plain::equal_items-returns-then-items-values : goal.plain::equal_items-returns-then-items-values
plain::equal_items-returns-then-items-values t c = items_of_other_length c.args.items.now c.args.values.now c.if-items-values.true

pub plain::equal_fields-returns-then-not-equal_field : goal.plain::equal_fields-returns-then-not-equal_field
plain::equal_fields-returns-then-not-equal_field t c =
    ends_false _ _ _ _ (sym c.equal_field.ensures ∙ c.if-not-equal_field.true) (fields_from c.args.fields.now c.args.values.now c.loop-i.i c.index-fields-i.result c.index-values-i.result c.index-fields-i.is c.index-values-i.is (omega arith) (omega arith)) c.loop-i.invariant

pub plain::equal_items-returns-then-not-equals : goal.plain::equal_items-returns-then-not-equals
plain::equal_items-returns-then-not-equals t c =
    ends_false _ _ _ _ (sym c.equals.ensures ∙ c.if-not-equals.true) (items_from c.args.items.now c.args.values.now c.loop-i.i c.index-items-i.result c.index-values-i.result c.index-items-i.is c.index-values-i.is (omega arith) (omega arith)) c.loop-i.invariant

pub plain::equal_fields-loop-i-preserved : goal.plain::equal_fields-loop-i-preserved
plain::equal_fields-loop-i-preserved t c =
    goes_on _ _ _ _ (sym c.equal_field.ensures ∙ c.if-not-equal_field.false) (fields_from c.args.fields.now c.args.values.now c.loop-i.i c.index-fields-i.result c.index-values-i.result c.index-fields-i.is c.index-values-i.is (omega arith) (omega arith)) c.loop-i.invariant

pub plain::equal_items-loop-i-preserved : goal.plain::equal_items-loop-i-preserved
plain::equal_items-loop-i-preserved t c =
    goes_on _ _ _ _ (sym c.equals.ensures ∙ c.if-not-equals.false) (items_from c.args.items.now c.args.values.now c.loop-i.i c.index-items-i.result c.index-values-i.result c.index-items-i.is c.index-values-i.is (omega arith) (omega arith)) c.loop-i.invariant

pub plain::equal_fields-returns : goal.plain::equal_fields-returns
plain::equal_fields-returns t c =
    let no_field : drop c.loop-i.i c.args.fields.now ≡ [] = drop_of_length-le c.args.fields.now c.loop-i-test.false in
    let no_value : drop c.loop-i.i c.args.values.now ≡ [] = drop_of_length-le c.args.values.now (omega arith) in
    rw (no_field, no_value) at c.loop-i.invariant

pub plain::equal_items-returns : goal.plain::equal_items-returns
plain::equal_items-returns t c =
    let no_item : drop c.loop-i.i c.args.items.now ≡ [] = drop_of_length-le c.args.items.now c.loop-i-test.false in
    let no_value : drop c.loop-i.i c.args.values.now ≡ [] = drop_of_length-le c.args.values.now (omega arith) in
    rw (no_item, no_value) at c.loop-i.invariant
