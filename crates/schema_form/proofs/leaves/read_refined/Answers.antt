use Rattle.std.proofs.Common.{◌≡◌, Some, get_or, codes, arith}
use Rattle.std.proofs.lemmas.Result.{IfOk-at_ok}
use Rattle.snap_core.specs.View.{view, fields_view}
use Rattle.pointer_core.specs.declared.schema_rule.SchemaRule.TheVariants.{Shape}
use Rattle.schema_form.specs.Faults.{under, base_faults, base_in, conditions_faults}
use Rattle.schema_form.specs.Layout.{conditions_of}
use Rattle.schema_form.specs.Names.{word_in}
use Rattle.schema_form.proofs.Finding.{tells-here, Tells-more, handed-on, Finds-equal}
use Rattle.schema_form.proofs.Laying.{refined-all}
use Rattle.schema_form.proofs.Shapes.{refinement-other, refinement-first}
use Rattle.schema_form.proofs.leaves.read_refined.Goals as goal

pub returns-then-items-ne2-clause-finds : goal.returns-then-items-ne2-clause-finds
returns-then-items-ne2-clause-finds c =
    tells-here c.wrong.result Shape _ c.wrong.ensures (refinement-other (fields_view c.args.types.now) c.args.items.now (λ two. omega (arith, two)))

pub returns-in_err-based-clause-finds : goal.returns-in_err-based-clause-finds
returns-in_err-based-clause-finds c =
    let e = c.in_err-based.field-0.0 in
    let types = fields_view c.args.types.now in
    let items = c.args.items.now in
    let t = c.index-items-0.result in
    Finds-equal c.from_residual.result _ _ (refinement-first types items t t (omega arith) c.index-items-0.is)
    (handed-on e c.from_residual.result _ c.from_residual.ensures.1
    (Tells-more e (under (codes "0") (base_faults types (view t))) (under (codes "1") (conditions_faults (base_in types (view t)) (view (get_or items 1 t)))) (c.in_err-based.ensures.finds _ c.read_base.ensures.finds)))

pub returns-clause-laid : goal.returns-clause-laid
returns-clause-laid c =
    let types = fields_view c.args.types.now in
    let t = c.index-items-0.result in
    let cs = c.index-items-1.result in
    let based = c.in_ok-based.based in
    let word : word_in types (view t) ≡ Some based.word = IfOk-at_ok (λ b. word_in types (view t) ≡ Some b.word) c.in_ok-based.ensures.ok c.read_base.ensures.word in
    let base : base_in types (view t) ≡ Some based.base = IfOk-at_ok (λ b. base_in types (view t) ≡ Some b.base) c.in_ok-based.ensures.ok c.read_base.ensures.base in
    let conditions : c.in_ok-conditions.conditions ≡ conditions_of (Some based.base) (view cs) =
    IfOk-at_ok (λ x. x ≡ conditions_of (Some based.base) (view cs)) c.in_ok-conditions.ensures.ok c.read_conditions.ensures.ok in
    refined-all types c.args.items.now t cs c.args.place c.args.expressions.now c.push.new.self c.push-2.new.self c.len.result c.next_number.result based.word based.base c.in_ok-conditions.conditions
    (omega arith) c.index-items-0.is c.index-items-1.is c.len.ensures c.next_number.ensures word base conditions c.in_ok-push.ensures.ok c.in_ok-push-2.ensures.ok
