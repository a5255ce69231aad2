use Rattle.eval_core.proofs.Traces as lemmas
use Rattle.eval_core.proofs.laws.traces_repeat.Goals as goal

pub returns : goal.returns
returns c = lemmas.traces-repeat
