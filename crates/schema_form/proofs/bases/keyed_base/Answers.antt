use Rattle.std.proofs.Common.{sym, ◌∙◌, arith}
use Rattle.schema_form.proofs.Shapes.{keyed_base-other, keyed_base-one}
use Rattle.schema_form.proofs.bases.keyed_base.Goals as goal

pub returns-then-fields-ne1 : goal.returns-then-fields-ne1
returns-then-fields-ne1 c = sym (keyed_base-other c.args.fields.now (λ one. omega (arith, one)))

pub returns-then-eq : goal.returns-then-eq
returns-then-eq c =
    sym (keyed_base-one c.args.fields.now c.index-fields-0.result _ (omega arith) c.index-fields-0.is (rw c.text.ensures at (sym c.eq.ensures ∙ c.if-eq.true)))

pub returns-else-eq : goal.returns-else-eq
returns-else-eq c =
    sym (keyed_base-one c.args.fields.now c.index-fields-0.result _ (omega arith) c.index-fields-0.is (rw c.text.ensures at (sym c.eq.ensures ∙ c.if-eq.false)))
