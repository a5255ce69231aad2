use Rattle.tree_laws.proofs.StayTyped as lemmas
use Rattle.tree_laws.proofs.laws.lists_stay_typed.Goals as goal

pub returns : goal.returns
returns c = lemmas.lists-typed
