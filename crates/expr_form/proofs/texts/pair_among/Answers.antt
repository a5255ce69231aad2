use Rattle.std.proofs.Common.{arith}
use Rattle.expr_form.proofs.Parts.{pair-other, pair-same}
use Rattle.expr_form.proofs.texts.pair_among.Goals as goal

pub returns-then-items-ne2 : goal.returns-then-items-ne2
returns-then-items-ne2 c = pair-other c.args.items.now (λ two. omega (arith, two))

pub returns : goal.returns
returns c = pair-same c.args.items.now c.index-items-0.result c.index-items-1.result (omega arith) c.index-items-0.is c.index-items-1.is
