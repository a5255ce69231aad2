use Rattle.std.proofs.Common.{arith}
use Rattle.expr_form.proofs.Parts.{triple-other, triple-same}
use Rattle.expr_form.proofs.texts.triple_among.Goals as goal

pub returns-then-items-ne3 : goal.returns-then-items-ne3
returns-then-items-ne3 c = triple-other c.args.items.now (λ three. omega (arith, three))

pub returns : goal.returns
returns c =
    triple-same c.args.items.now c.index-items-0.result c.index-items-1.result c.index-items-2.result (omega arith)
    c.index-items-0.is c.index-items-1.is c.index-items-2.is
