use Rattle.tree_laws.proofs.StayTyped as lemmas
use Rattle.tree_laws.proofs.laws.settling_stays_typed.Goals as goal

pub returns : goal.returns
returns c = lemmas.settling-stays
