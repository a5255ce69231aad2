use Rattle.std.proofs.Common.{is_some, sym, ◌∙◌, ap, arith}
use Rattle.snap_core.specs.declared.snap.Field.{Field}
use Rattle.schema_form.specs.Words.{form_of}
use Rattle.schema_form.proofs.Shapes.{expression-other, expression-one}
use Rattle.schema_form.proofs.keys.has_form.Goals as goal

pub returns-then-fields-ne1 : goal.returns-then-fields-ne1
returns-then-fields-ne1 c = sym (expression-other c.args.fields.now (λ one. omega (arith, one)))

pub returns : goal.returns
returns c =
    c.is_some.ensures ∙ ap is_some (c.form_of.ensures ∙ ap form_of c.text.ensures)
    ∙ ap (λ (h : Field). is_some (form_of h.key)) (sym c.index-fields-0.is)
    ∙ sym (expression-one c.args.fields.now c.index-fields-0.result (omega arith) c.index-fields-0.is)
