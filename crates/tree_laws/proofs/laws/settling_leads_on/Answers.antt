use Rattle.tree_laws.proofs.Settling as lemmas
use Rattle.tree_laws.proofs.laws.settling_leads_on.Goals as goal

pub returns : goal.returns
returns c = lemmas.settling-leads
