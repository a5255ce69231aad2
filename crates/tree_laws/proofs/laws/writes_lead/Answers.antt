use Rattle.tree_laws.proofs.Writes as lemmas
use Rattle.tree_laws.proofs.laws.writes_lead.Goals as goal

pub returns : goal.returns
returns c = lemmas.writes-lead
