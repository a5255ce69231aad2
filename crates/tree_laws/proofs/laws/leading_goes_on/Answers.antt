use Rattle.tree_laws.proofs.Joining as lemmas
use Rattle.tree_laws.proofs.laws.leading_goes_on.Goals as goal

pub returns : goal.returns
returns c = lemmas.goes-on
