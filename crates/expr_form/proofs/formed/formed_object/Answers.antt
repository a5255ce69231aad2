use Rattle.std.proofs.Common.{arith}
use Rattle.snap_core.specs.Value.{dict}
use Rattle.snap_core.specs.View.{view, fields_view}
use Rattle.pointer_core.specs.declared.schema_rule.SchemaRule.TheVariants.{Shape}
use Rattle.expr_form.specs.Keys.{key_of}
use Rattle.expr_form.specs.Expressions.{own_form, known}
use Rattle.expr_form.specs.Seen.{formed_seen}
use Rattle.expr_form.proofs.Telling.{tells-here, tells-same}
use Rattle.expr_form.proofs.Parts.{form-other, form-one}
use Rattle.expr_form.proofs.formed.formed_object.Goals as goal

pub returns-then-fields-ne1 : goal.returns-then-fields-ne1
returns-then-fields-ne1 c =
    tells-here formed_seen c.wrong.result Shape (own_form (dict tt (fields_view c.args.fields.now))) c.wrong.ensures (form-other c.args.fields.now (λ one. omega (arith, one)))

pub returns : goal.returns
returns c =
    let f = c.index-fields-0.result in
    tells-same formed_seen c.formed_field.result (known f.key (view f.value) (key_of f.key)) (own_form (dict tt (fields_view c.args.fields.now)))
    (form-one c.args.fields.now f (omega arith) c.index-fields-0.is) c.formed_field.ensures
