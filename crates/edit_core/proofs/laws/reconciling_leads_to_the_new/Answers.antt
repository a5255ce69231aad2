use Rattle.edit_core.proofs.Reconciling as lemmas
use Rattle.edit_core.proofs.laws.reconciling_leads_to_the_new.Goals as goal

pub returns : goal.returns
returns c = lemmas.reconciled-leads
