use Rattle.eval_core.proofs.Among as lemmas
use Rattle.eval_core.proofs.laws.among_is_alone.Goals as goal

pub returns : goal.returns
returns c = lemmas.among-alone
