use Rattle.edit_core.proofs.Patching as lemmas
use Rattle.edit_core.proofs.laws.patches_lead_to_the_new.Goals as goal

pub returns : goal.returns
returns c = lemmas.patching
