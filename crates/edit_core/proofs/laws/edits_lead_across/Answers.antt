use Rattle.edit_core.proofs.Between as lemmas
use Rattle.edit_core.proofs.laws.edits_lead_across.Goals as goal

pub returns : goal.returns
returns c = lemmas.between-runs
