use Rattle.eval_core.proofs.PlainOperands as lemmas
use Rattle.eval_core.proofs.laws.plain_operands.Goals as goal

pub returns : goal.returns
returns c = lemmas.plain-operands
