use Rattle.std.proofs.Common.{sym, rules, subst}
use Rattle.std.proofs.lemmas.Option.{slice_get-get_or}
use Rattle.snap_core.specs.declared.snap.Snap.{the_lemmas}
use Rattle.snap_core.specs.Value.{IsPlain}
use Rattle.snap_core.specs.View.{view, fields_view}
use Rattle.type_table.specs.Identifiers.{ident_in}
use Rattle.type_core.specs.Judging.{judged_by}
use Rattle.type_core.specs.Making.{absent, keyed, maker_of, fields_of, field_at, property_made}
use Rattle.type_core.proofs.Steps.{plain_value, plain_item, property_made-present, property_made-absent}
use Rattle.snap_core.proofs.Keys.{AreKeyed-ascending}
use Rattle.type_core.proofs.Items.{item-handed_on, item-more, items-all}
use Rattle.type_core.proofs.Entries.{value-handed_on, value-more, values-all, property-handed_on, property-more, properties-all}
use Rattle.type_core.proofs.+making.Goals as goal

-- the items of an array

pub records::make_items-make_value-value-requires : goal.records::make_items-make_value-value-requires
records::make_items-make_value-value-requires t c =
    (search (rules, the_lemmas), subst (λ item. IsPlain (view item)) (sym c.index-items-index.is) (plain_item c.args.items.now c.loop-index.index c.index-items-index.result c.requires.plain c.loop-index-test.true))

pub records::make_items-returns-in_err-value : goal.records::make_items-returns-in_err-value
records::make_items-returns-in_err-value t c =
    let l = c.loop-index in
    let h = c.under_index.ensures (maker_of c.args.types.now c.args.defaults.now (view c.index-items-index.result) c.args.of.0) c.make_value-value.ensures.made in
    let was = c.in_err-value.was in
    item-handed_on c.args.types.now c.args.defaults.now c.args.of.0 c.args.items.now l.index l.made l.invariant c.index-items-index.result c.loop-index-test.true c.index-items-index.is
    c.in_err-value.field-0.0 _ c.from_residual.ensures.1 (rw was at h)

pub records::make_items-loop-index-preserved : goal.records::make_items-loop-index-preserved
records::make_items-loop-index-preserved t c =
    let l = c.loop-index in
    let h = c.under_index.ensures (maker_of c.args.types.now c.args.defaults.now (view c.index-items-index.result) c.args.of.0) c.make_value-value.ensures.made in
    let was = c.in_ok-value.was in
    rw c.in_ok-push.ensures.ok
    (item-more c.args.types.now c.args.defaults.now c.args.of.0 c.args.items.now l.index l.made l.invariant c.index-items-index.result c.loop-index-test.true c.index-items-index.is
    c.in_ok-value.value (rw was at h))

pub records::make_items-returns : goal.records::make_items-returns
records::make_items-returns t c =
    let l = c.loop-index in
    items-all c.args.types.now c.args.defaults.now c.args.of.0 c.args.items.now l.index l.made l.invariant c.loop-index-test.false

-- the values of a map

pub records::make_entries-make_value-value-requires : goal.records::make_entries-make_value-value-requires
records::make_entries-make_value-value-requires t c =
    (search (rules, the_lemmas), subst (λ field. IsPlain (view field.value)) (sym c.field-item.is) (plain_value c.args.fields.now c.loop-field.field-index c.field-item.result c.requires.plain c.loop-field-test.true))

pub records::make_entries-keyed-value-requires : goal.records::make_entries-keyed-value-requires
records::make_entries-keyed-value-requires t c =
    record { plain = subst (λ field. IsPlain (view field.value)) (sym c.field-item.is) (plain_value c.args.fields.now c.loop-field.field-index c.field-item.result c.requires.plain c.loop-field-test.true) }

pub records::make_entries-returns-in_err-value : goal.records::make_entries-returns-in_err-value
records::make_entries-returns-in_err-value t c =
    let l = c.loop-field in
    let f = c.field-item.result in
    let table = c.args.types.now in
    let made = maker_of table c.args.defaults.now (view f.value) c.args.of.0 in
    let own = ident_in table (judged_by table (view f.value) c.args.of.0) (view f.value) in
    let h = c.under.ensures (keyed f.key own made) (c.keyed-value.ensures made c.make_value-value.ensures.made) in
    let was = c.in_err-value.was in
    let token = c.text.ensures in
    value-handed_on c.args.types.now c.args.defaults.now c.args.of.0 c.args.fields.now l.field-index l.made l.invariant c.field-item.result c.loop-field-test.true c.field-item.is
    c.in_err-value.field-0.0 _ c.from_residual.ensures.1 (rw token at (rw was at h))

pub records::make_entries-loop-field-preserved : goal.records::make_entries-loop-field-preserved
records::make_entries-loop-field-preserved t c =
    let l = c.loop-field in
    let f = c.field-item.result in
    let table = c.args.types.now in
    let made = maker_of table c.args.defaults.now (view f.value) c.args.of.0 in
    let own = ident_in table (judged_by table (view f.value) c.args.of.0) (view f.value) in
    let h = c.under.ensures (keyed f.key own made) (c.keyed-value.ensures made c.make_value-value.ensures.made) in
    let was = c.in_ok-value.was in
    let token = c.text.ensures in
    rw c.in_ok-push_entry.ensures
    (value-more c.args.types.now c.args.defaults.now c.args.of.0 c.args.fields.now l.field-index l.made l.invariant c.field-item.result c.loop-field-test.true c.field-item.is
    c.text-in-loop-field.result.now c.in_ok-value.value (rw token at (rw was at h)) c.text-in-loop-field.ensures)

pub records::make_entries-returns : goal.records::make_entries-returns
records::make_entries-returns t c =
    let l = c.loop-field in
    values-all c.args.types.now c.args.defaults.now c.args.of.0 c.args.fields.now l.field-index l.made l.invariant c.loop-field-test.false

-- the properties of a model

pub records::make_properties-returns-in_err-value : goal.records::make_properties-returns-in_err-value
records::make_properties-returns-in_err-value t c =
    let l = c.loop-property in
    let p = c.property-item.result in
    let h = c.under.ensures (property_made (absent c.args.types.now c.args.defaults.now) p (field_at p.name (fields_of c.args.types.now c.args.defaults.now (fields_view c.args.fields.now)))) c.make_property-value.ensures in
    let was = c.in_err-value.was in
    let token = c.text.ensures.text in
    property-handed_on (absent c.args.types.now c.args.defaults.now) c.args.properties.now (fields_of c.args.types.now c.args.defaults.now (fields_view c.args.fields.now))
    l.property-index l.made l.invariant c.property-item.result c.loop-property-test.true c.property-item.is
    c.in_err-value.field-0.0 _ c.from_residual.ensures.1 (rw token at (rw was at h))

pub records::make_properties-loop-property-preserved : goal.records::make_properties-loop-property-preserved
records::make_properties-loop-property-preserved t c =
    let l = c.loop-property in
    let p = c.property-item.result in
    let h = c.under.ensures (property_made (absent c.args.types.now c.args.defaults.now) p (field_at p.name (fields_of c.args.types.now c.args.defaults.now (fields_view c.args.fields.now)))) c.make_property-value.ensures in
    let was = c.in_ok-value.was in
    let token = c.text.ensures.text in
    rw c.in_ok-push_entry.ensures
    (property-more (absent c.args.types.now c.args.defaults.now) c.args.properties.now (fields_of c.args.types.now c.args.defaults.now (fields_view c.args.fields.now))
    l.property-index l.made l.invariant c.property-item.result c.loop-property-test.true c.property-item.is
    c.text-in-loop-property.result.now c.in_ok-value.value (rw token at (rw was at h)) c.text-in-loop-property.ensures.text)

pub records::make_properties-returns : goal.records::make_properties-returns
records::make_properties-returns t c =
    let l = c.loop-property in
    properties-all (absent c.args.types.now c.args.defaults.now) c.args.properties.now (fields_of c.args.types.now c.args.defaults.now (fields_view c.args.fields.now))
    l.property-index l.made l.invariant c.loop-property-test.false

-- one property

pub records::make_property-position-requires : goal.records::make_property-position-requires
records::make_property-position-requires t c = AreKeyed-ascending (fields_view c.args.fields.now) c.requires.plain

pub records::make_property-make_value-requires : goal.records::make_property-make_value-requires
records::make_property-make_value-requires t c =
    (search (rules, the_lemmas), plain_value c.args.fields.now c.in-Some.at c.index-fields-at.result c.requires.plain c.in-Some.ensures.within)

pub records::make_property-returns-in-Some : goal.records::make_property-returns-in-Some
records::make_property-returns-in-Some t c =
    let found = c.in-Some.ensures.found _ (slice_get-get_or c.args.fields.now c.in-Some.at c.index-fields-at.result c.in-Some.ensures.within) in
    rw (property_made-present c.args.types.now c.args.defaults.now _ c.args.property.now _ _ (rw c.text.ensures.text at found)) c.make_value.ensures.made

pub records::make_property-returns-in-None : goal.records::make_property-returns-in-None
records::make_property-returns-in-None t c =
    rw (property_made-absent c.args.types.now c.args.defaults.now _ c.args.property.now _ (rw c.text.ensures.text at c.in-None.ensures.found)) c.make_absent.ensures
