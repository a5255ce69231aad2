use Rattle.restoring_laws.proofs.Nodes as lemmas
use Rattle.restoring_laws.proofs.laws.dead_nodes_stay_dead.Goals as goal

pub returns : goal.returns
returns c = lemmas.dead-stay
