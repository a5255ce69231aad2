use Rattle.tree_laws.proofs.Lists as lemmas
use Rattle.tree_laws.proofs.laws.lists_lead.Goals as goal

pub returns : goal.returns
returns c = lemmas.lists-lead
