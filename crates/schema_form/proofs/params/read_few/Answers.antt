use Rattle.std.proofs.Common.{List, [], sym, ◌∙◌, subst}
use Rattle.snap_core.specs.View.{items_view, fields_view}
use Rattle.pointer_core.specs.declared.schema_rule.SchemaRule.TheVariants.{Arguments}
use Rattle.schema_form.specs.Faults.{unless, is_few, params_from}
use Rattle.expr_form.specs.declared.fault.Fault.{Fault}
use Rattle.schema_form.specs.Outcome.{Tells}
use Rattle.schema_form.proofs.Finding.{handed-on, Tells-more, Finds-behind}
use Rattle.schema_form.proofs.Saying.{few-items}
use Rattle.schema_form.proofs.params.read_few.Goals as goal

pub returns-in_err-require-clause-finds : goal.returns-in_err-require-clause-finds
returns-in_err-require-clause-finds c =
    let e = c.in_err-require.field-0.0 in
    let items = items_view c.args.items.now in
    let P : List Fault → Type 0 = Tells e in
    handed-on e c.from_residual.result _ c.from_residual.ensures.1
    (Tells-more e (unless (is_few items) Arguments) (params_from (fields_view c.args.by.now.types.now) [] 0 items) (subst P (sym (few-items c.args.items.now)) c.in_err-require.ensures))

pub returns-clause-finds : goal.returns-clause-finds
returns-clause-finds c =
    let items = items_view c.args.items.now in
    Finds-behind c.read_each.result (unless (is_few items) Arguments) (params_from (fields_view c.args.by.now.types.now) [] 0 items) (few-items c.args.items.now ∙ c.in_ok-require.ensures) c.read_each.ensures.finds
