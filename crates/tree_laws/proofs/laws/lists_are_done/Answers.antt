use Rattle.tree_laws.proofs.Done as lemmas
use Rattle.tree_laws.proofs.laws.lists_are_done.Goals as goal

pub returns : goal.returns
returns c = lemmas.lists-done
