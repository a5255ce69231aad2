use Rattle.edit_core.proofs.Applying as lemmas
use Rattle.edit_core.proofs.laws.edits_lead_to_one.Goals as goal

pub returns : goal.returns
returns c = record { fits = lemmas.fits; in_turn = lemmas.in_turn }
