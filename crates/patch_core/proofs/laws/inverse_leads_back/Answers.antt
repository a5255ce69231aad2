use Rattle.patch_core.proofs.TakenBack as lemmas
use Rattle.patch_core.proofs.laws.inverse_leads_back.Goals as goal

pub returns : goal.returns
returns c = lemmas.inverse_leads_back
