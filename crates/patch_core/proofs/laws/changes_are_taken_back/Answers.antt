use Rattle.patch_core.proofs.TakenBack as lemmas
use Rattle.patch_core.proofs.laws.changes_are_taken_back.Goals as goal

pub returns : goal.returns
returns c = lemmas.changes_are_taken_back
