use Rattle.action_laws.proofs.Leading as lemmas
use Rattle.action_laws.proofs.laws.actions_lead.Goals as goal

pub returns : goal.returns
returns c = lemmas.actions-lead
