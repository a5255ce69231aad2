use Rattle.std.proofs.Common.{codes}
use Rattle.snap_core.specs.View.{view, fields_view}
use Rattle.schema_form.specs.Faults.{under, param_name_faults, param_type_faults}
use Rattle.schema_form.specs.Setting.{names_of}
use Rattle.schema_form.proofs.Finding.{handed-on, Tells-more, Tells-behind, Finds-equal}
use Rattle.schema_form.proofs.Saying.{param-pair}
use Rattle.schema_form.proofs.params.read_param.Goals as goal

pub returns-in_err-name-clause-finds : goal.returns-in_err-name-clause-finds
returns-in_err-name-clause-finds c =
    let e = c.in_err-name.field-0.0 in
    let types = fields_view c.args.by.now.types.now in
    let names = names_of c.args.earlier.now in
    Finds-equal c.from_residual.result _ _ (param-pair types names (view c.args.value.now) (view c.in-Some.name.now, view c.in-Some.of.now) c.in-Some.ensures)
    (handed-on e c.from_residual.result _ c.from_residual.ensures.1
    (Tells-more e (under (codes "0") (param_name_faults names (view c.in-Some.name.now))) (under (codes "1") (param_type_faults types (view c.in-Some.of.now)))
    (c.in_err-name.ensures.finds _ c.read_param_name.ensures.finds)))

pub returns-in_err-under-clause-finds : goal.returns-in_err-under-clause-finds
returns-in_err-under-clause-finds c =
    let e = c.in_err-under.field-0.0 in
    let types = fields_view c.args.by.now.types.now in
    let names = names_of c.args.earlier.now in
    Finds-equal c.from_residual-in_err-under.result _ _ (param-pair types names (view c.args.value.now) (view c.in-Some.name.now, view c.in-Some.of.now) c.in-Some.ensures)
    (handed-on e c.from_residual-in_err-under.result _ c.from_residual-in_err-under.ensures.1
    (Tells-behind e (under (codes "0") (param_name_faults names (view c.in-Some.name.now))) (under (codes "1") (param_type_faults types (view c.in-Some.of.now)))
    (c.in_ok-name.ensures.finds _ c.read_param_name.ensures.finds) (c.in_err-under.ensures.finds _ c.read_param_type.ensures.finds)))
