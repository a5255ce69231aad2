use Rattle.tree_laws.proofs.Loose as lemmas
use Rattle.tree_laws.proofs.laws.settling_settles.Goals as goal

pub returns : goal.returns
returns c = lemmas.settling-settles
