use Rattle.tree_laws.proofs.Done as lemmas
use Rattle.tree_laws.proofs.laws.writes_are_done.Goals as goal

pub returns : goal.returns
returns c = lemmas.writes-done
