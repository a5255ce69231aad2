use Rattle.edit_core.proofs.Numbering as lemmas
use Rattle.edit_core.proofs.laws.first_matches_once.Goals as goal

pub returns : goal.returns
returns c = lemmas.first-once
