use Rattle.eval_core.proofs.Agreeing as lemmas
use Rattle.eval_core.proofs.laws.same_cells_same_run.Goals as goal

pub returns : goal.returns
returns c = lemmas.runs-alike
