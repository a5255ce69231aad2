use Rattle.edit_core.proofs.TakenBack as lemmas
use Rattle.edit_core.proofs.laws.edits_are_taken_back.Goals as goal

pub returns : goal.returns
returns c = record { one = lemmas.back-one; many = lemmas.back-all }
