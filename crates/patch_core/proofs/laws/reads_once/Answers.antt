use Rattle.patch_core.proofs.ReadBack as lemmas
use Rattle.patch_core.proofs.laws.reads_once.Goals as goal

pub returns : goal.returns
returns c = lemmas.reads_once
