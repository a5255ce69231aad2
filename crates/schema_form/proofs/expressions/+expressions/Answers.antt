use Rattle.std.proofs.Common.{◌≡◌, ◌+◌, [], ◌∷◌, ◌++◌, length, drop, codes, refl, sym, ◌∙◌, ap, arith, length-append}
use Rattle.std.proofs.lemmas.Result.{on_ok_weaker}
use Rattle.snap_core.specs.View.{view, items_view, fields_view}
use Rattle.pointer_core.specs.declared.schema_rule.SchemaRule.TheVariants.{Shape}
use Rattle.schema_form.specs.declared.form.Place.TheVariants as place
use Rattle.schema_form.specs.declared.form.Step.TheVariants as step
use Rattle.schema_form.specs.declared.form.Kind.TheVariants as kind
use Rattle.schema_form.specs.Faults.{under, number_faults, numbered, parts_faults, type_faults}
use Rattle.schema_form.specs.Layout.{type_no, type_laid, members_laid, member_numbers, parts_laid_of}
use Rattle.schema_form.proofs.Finding.{tells-here, Tells-more, handed-on, Finds-equal, items-passed, items-found}
use Rattle.schema_form.proofs.Laying.{laid-step, pushed-step, members-laid, members-numbered, object_laid, defaulted-all, union-all, OnOk-of, OnOk-at}
use Rattle.schema_form.proofs.Shapes.{optional-other, optional-pair, union-few, union-some, object-other, object-one}
use Rattle.schema_form.proofs.expressions.+expressions.Goals as goal

-- objects with one field

pub read_object-returns-then-fields-ne1-clause-finds : goal.read_object-returns-then-fields-ne1-clause-finds
read_object-returns-then-fields-ne1-clause-finds t c =
    tells-here c.wrong.result Shape _ c.wrong.ensures (object-other (fields_view c.args.types.now) c.args.fields.now (λ one. omega (arith, one)))

pub read_object-returns-clause-finds : goal.read_object-returns-clause-finds
read_object-returns-clause-finds t c =
    rw (object-one (fields_view c.args.types.now) c.args.fields.now c.index-fields-0.result (omega arith) c.index-fields-0.is) c.read_keyed.ensures.finds

pub read_object-returns-clause-laid : goal.read_object-returns-clause-laid
read_object-returns-clause-laid t c =
    let old = c.args.expressions.now in
    on_ok_weaker c.read_keyed.result
    (λ h. h ∙ ap (λ xs. old ++ xs) (sym (object_laid (fields_view c.args.types.now) c.args.fields.now c.index-fields-0.result (length old) c.args.place (omega arith) c.index-fields-0.is)))
    c.read_keyed.ensures.laid

-- a type and its default

pub read_defaulted-returns-then-items-ne2-clause-finds : goal.read_defaulted-returns-then-items-ne2-clause-finds
read_defaulted-returns-then-items-ne2-clause-finds t c =
    tells-here c.wrong.result Shape _ c.wrong.ensures (optional-other (fields_view c.args.types.now) c.args.items.now (λ two. omega (arith, two)))

pub read_defaulted-returns-in_err-under-clause-finds : goal.read_defaulted-returns-in_err-under-clause-finds
read_defaulted-returns-in_err-under-clause-finds t c =
    let e = c.in_err-under.field-0.0 in
    let types = fields_view c.args.types.now in
    let v = c.index-items-0.result in
    let d = c.index-items-1.result in
    let pair = optional-pair types c.args.items.now v d (omega arith) c.index-items-0.is c.index-items-1.is in
    Finds-equal c.from_residual-in_err-under.result _ _ pair
    (handed-on e c.from_residual-in_err-under.result _ c.from_residual-in_err-under.ensures.1
    (Tells-more e (under (codes "0") (type_faults types (view v))) (under (codes "1") (number_faults (view d))) (c.in_err-under.ensures.finds _ c.read_type-of.ensures.finds)))

pub read_defaulted-returns-clause-laid : goal.read_defaulted-returns-clause-laid
read_defaulted-returns-clause-laid t c =
    OnOk-of c.under-2.result
    (defaulted-all (fields_view c.args.types.now) c.args.items.now c.index-items-0.result c.index-items-1.result c.in_ok-default.default c.args.place
    c.args.expressions.now c.push.new.self c.read_type-of.new.expressions c.len.result c.next_number.result
    (omega arith) c.index-items-0.is c.index-items-1.is c.len.ensures c.next_number.ensures c.in_ok-default.ensures c.in_ok-push.ensures.ok
    (OnOk-at c.read_type-of.result _ c.in_ok-under.ensures.ok c.read_type-of.ensures.laid))

-- members

pub read_union-returns-then-items-lt2-clause-finds : goal.read_union-returns-then-items-lt2-clause-finds
read_union-returns-then-items-lt2-clause-finds t c =
    tells-here c.wrong.result Shape _ c.wrong.ensures (union-few (fields_view c.args.types.now) c.args.items.now (omega arith))

pub read_union-returns-in_err-members-clause-finds : goal.read_union-returns-in_err-members-clause-finds
read_union-returns-in_err-members-clause-finds t c =
    let e = c.in_err-members.field-0.0 in
    Finds-equal c.from_residual-in_err-members.result _ _ (union-some (fields_view c.args.types.now) c.args.items.now (omega arith))
    (handed-on e c.from_residual-in_err-members.result _ c.from_residual-in_err-members.ensures.1 c.in_err-members.ensures.finds)

pub read_union-returns-clause-finds : goal.read_union-returns-clause-finds
read_union-returns-clause-finds t c = union-some (fields_view c.args.types.now) c.args.items.now (omega arith) ∙ c.in_ok-members.ensures.finds

pub read_union-returns-clause-laid : goal.read_union-returns-clause-laid
read_union-returns-clause-laid t c =
    let old = c.args.expressions.now in
    let mid : c.push.new.self ≡ old ++ record { place = c.args.place; kind = kind.Union [] } ∷ [] =
    c.in_ok-push.ensures.ok ∙ ap (λ us. old ++ record { place = c.args.place; kind = kind.Union us } ∷ []) c.new.ensures in
    union-all (fields_view c.args.types.now) c.args.items.now c.args.place old c.push.new.self c.read_members.new.expressions c.set.new.self
    c.len.result c.in_ok-members.members c.len.ensures mid c.in_ok-members.ensures.laid c.in_ok-members.ensures.numbers c.set.ensures

pub read_members-returns-in_err-at_index-clause-finds : goal.read_members-returns-in_err-at_index-clause-finds
read_members-returns-in_err-at_index-clause-finds t c =
    let e = c.in_err-at_index.field-0.0 in
    let types = fields_view c.args.types.now in
    let whole = numbered 0 (parts_faults types (items_view c.args.items.now)) in
    handed-on e c.from_residual-in_err-at_index.result whole c.from_residual-in_err-at_index.ensures.1
    (items-found (λ i ps. numbered i (parts_faults types ps)) (type_faults types) (λ i v ps. refl) e whole c.args.items.now c.loop-index.index c.index-items-index.result
    c.loop-index-test.true c.index-items-index.is c.loop-index.invariant.faults (c.in_err-at_index.ensures.finds _ c.read_type-member.ensures.finds))

pub read_members-loop-index-preserved : goal.read_members-loop-index-preserved
read_members-loop-index-preserved t c =
    let l = c.loop-index in
    let types = fields_view c.args.types.now in
    let items = c.args.items.now in
    let v = c.index-items-index.result in
    let old = l.expressions in
    let new = c.read_type-member.new.expressions in
    let u = c.args.union.0 in
    let a = type_laid types (view v) (length old) (place.Part (type_no u) (step.Member l.index)) in
    let ahead = items_view (drop (l.index + 1) items) in
    let added : new ≡ old ++ a = OnOk-at c.read_type-member.result _ c.in_ok-at_index.ensures.ok c.read_type-member.ensures.laid in
    let longer : length new ≡ length old + length a = ap length added ∙ length-append old a in
    record {
      faults = items-passed (λ i ps. numbered i (parts_faults types ps)) (type_faults types) (λ i v ps. refl) (numbered 0 (parts_faults types (items_view items))) items l.index v
          c.loop-index-test.true c.index-items-index.is l.invariant.faults (c.in_ok-at_index.ensures.finds _ c.read_type-member.ensures.finds);
      laid = laid-step old new a _ (λ n. members_laid u (l.index + 1) (parts_laid_of types ahead) n)
          (l.invariant.laid ∙ ap (λ xs. old ++ xs) (members-laid types u items l.index v c.loop-index-test.true c.index-items-index.is (length old))) added;
      numbers = pushed-step l.members c.push.new.self _ (type_no (length old)) (member_numbers u (l.index + 1) (parts_laid_of types ahead) (length new))
          (l.invariant.numbers ∙ ap (λ ns. l.members ++ ns) (members-numbered types u items l.index v c.loop-index-test.true c.index-items-index.is (length old))
          ∙ ap (λ n. l.members ++ type_no (length old) ∷ member_numbers u (l.index + 1) (parts_laid_of types ahead) n) (sym longer))
          (c.in_ok-push.ensures.ok ∙ ap (λ n. l.members ++ type_no n ∷ []) c.len.ensures);
    }
