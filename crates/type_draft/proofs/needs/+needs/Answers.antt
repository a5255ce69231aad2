use Rattle.std.proofs.Common.{sym, rules, subst}
use Rattle.snap_core.specs.declared.snap.Snap.{the_lemmas}
use Rattle.snap_core.specs.Value.{IsPlain}
use Rattle.snap_core.specs.View.{view, fields_view}
use Rattle.snap_core.proofs.Keys.{AreKeyed-ascending}
use Rattle.type_core.proofs.Steps.{plain_value, plain_item}
use Rattle.type_draft.proofs.needs.+needs.Goals as goal

pub add_item_needs-add_needs-requires : goal.add_item_needs-add_needs-requires
add_item_needs-add_needs-requires t c =
    (search (rules, the_lemmas), subst (λ item. IsPlain (view item)) (sym c.item-item.is) (plain_item c.args.items.now c.loop-item.item-index c.item-item.result c.requires c.loop-item-test.true))

pub add_value_needs-add_needs-requires : goal.add_value_needs-add_needs-requires
add_value_needs-add_needs-requires t c =
    (search (rules, the_lemmas), subst (λ field. IsPlain (view field.value)) (sym c.field-item.is) (plain_value c.args.fields.now c.loop-field.field-index c.field-item.result c.requires c.loop-field-test.true))

pub add_property_needs-position-requires : goal.add_property_needs-position-requires
add_property_needs-position-requires t c = AreKeyed-ascending (fields_view c.args.fields.now) c.requires

pub add_property_needs-add_needs-requires : goal.add_property_needs-add_needs-requires
add_property_needs-add_needs-requires t c =
    (search (rules, the_lemmas), plain_value c.args.fields.now c.in-Some.at c.index-fields-at.result c.requires c.in-Some.ensures.within)
