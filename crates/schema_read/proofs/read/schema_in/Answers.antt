use Rattle.std.proofs.Common.{sym, subst}
use Rattle.snap_core.specs.View.{view}
use Rattle.expr_form.specs.declared.fault.Fault.{Fault}
use Rattle.schema_read.specs.Schema.{IsFirst, IsFirstOf, in_file, in_form}
use Rattle.schema_read.proofs.PlainForms.{form-views-plain, form-actions-plain, form-conditions-plain}
use Rattle.schema_read.proofs.Refusals.{IfRefused-weaker}
use Rattle.schema_read.proofs.read.schema_in.Goals as goal

pub schema_of-requires-clause-plain : goal.schema_of-requires-clause-plain
schema_of-requires-clause-plain c =
    let read = c.in-Ok.ensures in
    form-views-plain (view c.args.file.now) c.in-Ok.form c.requires read.finds read.form

pub schema_of-requires-clause-plain_actions : goal.schema_of-requires-clause-plain_actions
schema_of-requires-clause-plain_actions c =
    let read = c.in-Ok.ensures in
    form-actions-plain (view c.args.file.now) c.in-Ok.form c.requires read.finds read.form

pub schema_of-requires-clause-plain_conditions : goal.schema_of-requires-clause-plain_conditions
schema_of-requires-clause-plain_conditions c =
    let read = c.in-Ok.ensures in
    form-conditions-plain (view c.args.file.now) c.in-Ok.form c.requires read.finds read.form

pub returns-in-Ok-clause-refused : goal.returns-in-Ok-clause-refused
returns-in-Ok-clause-refused c =
    let form = c.in-Ok.form in
    let read = c.in-Ok.ensures in
    IfRefused-weaker c.schema_of.result (λ path rule. IsFirstOf form (record { path = path; rule = rule }))
    (λ path rule. IsFirst (view c.args.file.now) (record { path = path; rule = rule }))
    (λ path rule wrong. in_form form (record { path = path; rule = rule }) read.finds read.form wrong) c.schema_of.ensures.refused

pub returns-in-Err-Wrong-clause-refused : goal.returns-in-Err-Wrong-clause-refused
returns-in-Err-Wrong-clause-refused c =
    let wrong = c.in-Err-Wrong in
    let finds = rw wrong.field-0-is at wrong.ensures.finds in
    let P : Fault → Type 0 = λ f. IsFirst (view c.args.file.now) (record { path = f.path; rule = f.rule }) in
    rw c.refused.ensures (subst P (sym wrong.fault-is) (in_file wrong.fault finds))
