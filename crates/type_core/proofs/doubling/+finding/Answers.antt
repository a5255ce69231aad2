use Rattle.std.proofs.Common.{Option, sym, subst, get_or, rules}
use Rattle.std.proofs.lemmas.Option.{slice_get-get_or}
use Rattle.pointer_core.specs.Path.{Path}
use Rattle.snap_core.specs.declared.snap.Snap.{the_lemmas}
use Rattle.snap_core.specs.Value.{IsPlain}
use Rattle.snap_core.specs.View.{view, fields_view}
use Rattle.snap_core.proofs.Keys.{AreKeyed-ascending}
use Rattle.type_core.specs.Doubled.{finder_of, keyed_finders_of, found_under}
use Rattle.type_core.specs.Finding.{Finds}
use Rattle.type_core.proofs.Steps.{plain_value, plain_item}
use Rattle.type_core.proofs.Finding.{items-end, items-next, items-found, values-end, values-next, values-found, properties-end, properties-next, properties-found, under-found, under-none, under-absent}
use Rattle.type_core.proofs.doubling.+finding.Goals as goal

pub find_in_items-find_doubled-requires : goal.find_in_items-find_doubled-requires
find_in_items-find_doubled-requires t c =
    (search (rules, the_lemmas), subst (λ item. IsPlain (view item)) (sym c.index-items-index.is) (plain_item c.args.items.now c.loop-index.index c.index-items-index.result c.requires.plain c.loop-index-test.true))

pub find_in_values-find_doubled-requires : goal.find_in_values-find_doubled-requires
find_in_values-find_doubled-requires t c =
    (search (rules, the_lemmas), subst (λ field. IsPlain (view field.value)) (sym c.field-item.is) (plain_value c.args.fields.now c.loop-field.field-index c.field-item.result c.requires.plain c.loop-field-test.true))

pub find_under-position-requires : goal.find_under-position-requires
find_under-position-requires t c = AreKeyed-ascending (fields_view c.args.fields.now) c.requires.plain

pub find_under-find_doubled-requires : goal.find_under-find_doubled-requires
find_under-find_doubled-requires t c =
    (search (rules, the_lemmas), plain_value c.args.fields.now c.in-Some.at c.index-fields-at.result c.requires.plain c.in-Some.ensures.within)

-- the items of an array

pub find_in_items-returns-in-Some : goal.find_in_items-returns-in-Some
find_in_items-returns-in-Some t c =
    let l = c.loop-index in
    let P : Option Path → Type 0 = λ o. Finds o l.seen c.find_doubled.new.seen (finder_of c.args.types.now (view c.index-items-index.result) c.args.of.0) in
    rw c.in_ok-under_index-in-Some.ensures
    (items-found c.args.types.now c.args.of.0 c.args.items.now l.index c.args.seen.now l.seen _ l.invariant c.index-items-index.result c.loop-index-test.true c.index-items-index.is
    c.find_doubled.new.seen c.in-Some.path (subst P c.in-Some.is c.in_ok-path.ensures))

pub find_in_items-loop-index-preserved : goal.find_in_items-loop-index-preserved
find_in_items-loop-index-preserved t c =
    let l = c.loop-index in
    let P : Option Path → Type 0 = λ o. Finds o l.seen c.find_doubled.new.seen (finder_of c.args.types.now (view c.index-items-index.result) c.args.of.0) in
    items-next c.args.types.now c.args.of.0 c.args.items.now l.index c.args.seen.now l.seen _ l.invariant c.index-items-index.result c.loop-index-test.true c.index-items-index.is
    c.find_doubled.new.seen (subst P c.in-None.is c.in_ok-path.ensures)

pub find_in_items-returns : goal.find_in_items-returns
find_in_items-returns t c =
    let l = c.loop-index in
    items-end c.args.types.now c.args.of.0 c.args.items.now l.index c.args.seen.now l.seen _ l.invariant c.loop-index-test.false

-- the values of a map

pub find_in_values-returns-in-Some : goal.find_in_values-returns-in-Some
find_in_values-returns-in-Some t c =
    let l = c.loop-field in
    let P : Option Path → Type 0 = λ o. Finds o l.seen c.find_doubled.new.seen (finder_of c.args.types.now (view c.field-item.result.value) c.args.of.0) in
    rw (c.in_ok-under-in-Some.ensures, c.text.ensures)
    (values-found c.args.types.now c.args.of.0 c.args.fields.now l.field-index c.args.seen.now l.seen _ l.invariant c.field-item.result c.loop-field-test.true c.field-item.is
    c.find_doubled.new.seen c.in-Some.path (subst P c.in-Some.is c.in_ok-path.ensures))

pub find_in_values-loop-field-preserved : goal.find_in_values-loop-field-preserved
find_in_values-loop-field-preserved t c =
    let l = c.loop-field in
    let P : Option Path → Type 0 = λ o. Finds o l.seen c.find_doubled.new.seen (finder_of c.args.types.now (view c.field-item.result.value) c.args.of.0) in
    values-next c.args.types.now c.args.of.0 c.args.fields.now l.field-index c.args.seen.now l.seen _ l.invariant c.field-item.result c.loop-field-test.true c.field-item.is
    c.find_doubled.new.seen (subst P c.in-None.is c.in_ok-path.ensures)

pub find_in_values-returns : goal.find_in_values-returns
find_in_values-returns t c =
    let l = c.loop-field in
    values-end c.args.types.now c.args.of.0 c.args.fields.now l.field-index c.args.seen.now l.seen _ l.invariant c.loop-field-test.false

-- the properties of a model

pub find_in_properties-returns-in-Some : goal.find_in_properties-returns-in-Some
find_in_properties-returns-in-Some t c =
    let l = c.loop-property in
    let finders = keyed_finders_of c.args.types.now (fields_view c.args.fields.now) in
    let P : Option Path → Type 0 = λ o. Finds o l.seen c.find_under.new.seen (found_under c.property-item.result finders) in
    properties-found c.args.properties.now finders l.property-index c.args.seen.now l.seen _ l.invariant c.property-item.result c.loop-property-test.true c.property-item.is
    c.find_under.new.seen c.in-Some.path (subst P c.in-Some.is c.in_ok-path.ensures)

pub find_in_properties-loop-property-preserved : goal.find_in_properties-loop-property-preserved
find_in_properties-loop-property-preserved t c =
    let l = c.loop-property in
    let finders = keyed_finders_of c.args.types.now (fields_view c.args.fields.now) in
    let P : Option Path → Type 0 = λ o. Finds o l.seen c.find_under.new.seen (found_under c.property-item.result finders) in
    properties-next c.args.properties.now finders l.property-index c.args.seen.now l.seen _ l.invariant c.property-item.result c.loop-property-test.true c.property-item.is
    c.find_under.new.seen (subst P c.in-None.is c.in_ok-path.ensures)

pub find_in_properties-returns : goal.find_in_properties-returns
find_in_properties-returns t c =
    let l = c.loop-property in
    properties-end c.args.properties.now (keyed_finders_of c.args.types.now (fields_view c.args.fields.now)) l.property-index c.args.seen.now l.seen _ l.invariant c.loop-property-test.false

-- one property

pub find_under-returns-in_ok-under-in-Some-2 : goal.find_under-returns-in_ok-under-in-Some-2
find_under-returns-in_ok-under-in-Some-2 t c =
    let here = c.in-Some.ensures.found _ (slice_get-get_or c.args.fields.now c.in-Some.at c.index-fields-at.result c.in-Some.ensures.within) in
    let v = view (get_or c.args.fields.now c.in-Some.at c.index-fields-at.result).value in
    let P : Option Path → Type 0 = λ o. Finds o c.args.seen.now c.find_doubled.new.seen (finder_of c.args.types.now v c.args.property.now.of.0) in
    rw (c.in_ok-under-in-Some-2.ensures, c.text-in-Some-2.ensures.text)
    (under-found c.args.types.now c.args.property.now (fields_view c.args.fields.now) v c.args.seen.now c.find_doubled.new.seen c.in-Some-2.path
    (rw c.text.ensures.text at here) (subst P c.in-Some-2.is c.in_ok-path-in-Some.ensures))

pub find_under-returns-in-None-2 : goal.find_under-returns-in-None-2
find_under-returns-in-None-2 t c =
    let here = c.in-Some.ensures.found _ (slice_get-get_or c.args.fields.now c.in-Some.at c.index-fields-at.result c.in-Some.ensures.within) in
    let v = view (get_or c.args.fields.now c.in-Some.at c.index-fields-at.result).value in
    let P : Option Path → Type 0 = λ o. Finds o c.args.seen.now c.find_doubled.new.seen (finder_of c.args.types.now v c.args.property.now.of.0) in
    under-none c.args.types.now c.args.property.now (fields_view c.args.fields.now) v c.args.seen.now c.find_doubled.new.seen
    (rw c.text.ensures.text at here) (subst P c.in-None-2.is c.in_ok-path-in-Some.ensures)

pub find_under-returns-in-None : goal.find_under-returns-in-None
find_under-returns-in-None t c =
    under-absent c.args.types.now c.args.property.now (fields_view c.args.fields.now) c.args.seen.now (rw c.text.ensures.text at c.in-None.ensures.found)
