use Rattle.std.proofs.Common.{◌∙◌, sym, arith}
use Rattle.expr_form.proofs.Stmts.{let-other, let-one}
use Rattle.expr_form.proofs.stmt.let_among.Goals as goal

pub returns-then-fields-ne1 : goal.returns-then-fields-ne1
returns-then-fields-ne1 c = sym (let-other c.args.fields.now (λ one. omega (arith, one)))

pub returns : goal.returns
returns c = c.let_of.ensures ∙ sym (let-one c.args.fields.now c.index-fields-0.result (omega arith) c.index-fields-0.is)
