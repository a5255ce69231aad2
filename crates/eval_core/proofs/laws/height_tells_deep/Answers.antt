use Rattle.eval_core.proofs.Deepening as lemmas
use Rattle.eval_core.proofs.laws.height_tells_deep.Goals as goal

pub returns : goal.returns
returns c = lemmas.height-tells
