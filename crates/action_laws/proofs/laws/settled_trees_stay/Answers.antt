use Rattle.action_laws.proofs.Nothing as lemmas
use Rattle.action_laws.proofs.laws.settled_trees_stay.Goals as goal

pub returns : goal.returns
returns c = lemmas.settled-trees-stay
