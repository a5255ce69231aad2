use Rattle.edit_core.proofs.Numbering as lemmas
use Rattle.edit_core.proofs.laws.numbers_differ.Goals as goal

pub returns : goal.returns
returns c = lemmas.numbering
