use Rattle.std.proofs.Common.{◌≡◌, ◌+◌, [], ◌∷◌, ◌++◌, length, drop, refl, sym, ◌∙◌, ap, length-append}
use Rattle.std.proofs.lemmas.Result.{IfOk-at_ok}
use Rattle.snap_core.specs.View.{view, fields_view}
use Rattle.schema_form.specs.declared.form.Place.TheVariants as place
use Rattle.schema_form.specs.Faults.{under, member_faults, property_faults}
use Rattle.schema_form.specs.Layout.{type_no, type_laid, properties_laid, properties_of}
use Rattle.schema_form.proofs.Finding.{handed-on, fields-passed, fields-found}
use Rattle.schema_form.proofs.Laying.{laid-step, pushed-step, properties-laid, properties-of, OnOk-at}
use Rattle.schema_form.proofs.properties.read_each.Goals as goal

pub returns-in_err-under-clause-finds : goal.returns-in_err-under-clause-finds
returns-in_err-under-clause-finds c =
    let e = c.in_err-under.field-0.0 in
    let types = fields_view c.args.by.now.types.now in
    let parts = fields_view c.args.by.now.parts.now in
    let whole = member_faults (property_faults types parts) (fields_view c.args.fields.now) in
    handed-on e c.from_residual.result whole c.from_residual.ensures.1
    (fields-found (member_faults (property_faults types parts)) (λ k v. under k (property_faults types parts k v)) (λ k v ms. refl) e whole c.args.fields.now c.loop-index.index c.index-fields-index.result
    c.loop-index-test.true c.index-fields-index.is c.loop-index.invariant.faults (rw c.text.ensures at (c.in_err-under.ensures.finds _ c.read_property-property.ensures.finds)))

pub loop-index-preserved : goal.loop-index-preserved
loop-index-preserved c =
    let l = c.loop-index in
    let types = fields_view c.args.by.now.types.now in
    let parts = fields_view c.args.by.now.parts.now in
    let fields = c.args.fields.now in
    let m = c.args.by.now.model in
    let f = c.index-fields-index.result in
    let old = l.expressions in
    let new = c.read_property-property.new.expressions in
    let a = type_laid types (view f.value) (length old) (place.Property m l.index) in
    let ahead = fields_view (drop (l.index + 1) fields) in
    let added : new ≡ old ++ a = OnOk-at c.read_property-property.result _ c.in_ok-under.ensures.ok c.read_property-property.ensures.laid in
    let longer : length new ≡ length old + length a = ap length added ∙ length-append old a in
    let p : c.in_ok-under.field-0 ≡ record { name = f.key; of = type_no (length old) } =
    IfOk-at_ok (λ x. x ≡ record { name = f.key; of = type_no (length old) }) c.in_ok-under.ensures.ok c.read_property-property.ensures.property in
    record {
      faults = fields-passed (member_faults (property_faults types parts)) (λ k v. under k (property_faults types parts k v)) (λ k v ms. refl) (member_faults (property_faults types parts) (fields_view fields)) fields l.index f
          c.loop-index-test.true c.index-fields-index.is l.invariant.faults (rw c.text.ensures at (c.in_ok-under.ensures.finds _ c.read_property-property.ensures.finds));
      laid = laid-step old new a _ (λ n. properties_laid types m (l.index + 1) ahead n)
          (l.invariant.laid ∙ ap (λ xs. old ++ xs) (properties-laid types m fields l.index f c.loop-index-test.true c.index-fields-index.is (length old))) added;
      properties = pushed-step l.properties c.push.new.self _ (record { name = f.key; of = type_no (length old) }) (properties_of types m (l.index + 1) ahead (length new))
          (l.invariant.properties ∙ ap (λ ps. l.properties ++ ps) (properties-of types m fields l.index f c.loop-index-test.true c.index-fields-index.is (length old))
          ∙ ap (λ n. l.properties ++ record { name = f.key; of = type_no (length old) } ∷ properties_of types m (l.index + 1) ahead n) (sym longer))
          (c.in_ok-push.ensures.ok ∙ ap (λ x. l.properties ++ x ∷ []) p);
    }
