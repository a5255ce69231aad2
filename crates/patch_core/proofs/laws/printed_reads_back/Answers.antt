use Rattle.patch_core.proofs.ReadBack as lemmas
use Rattle.patch_core.proofs.laws.printed_reads_back.Goals as goal

pub returns : goal.returns
returns c = lemmas.printed_reads_back
