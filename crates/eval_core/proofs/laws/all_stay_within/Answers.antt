use Rattle.eval_core.proofs.Within as lemmas
use Rattle.eval_core.proofs.laws.all_stay_within.Goals as goal

pub returns : goal.returns
returns c = lemmas.stay-within
