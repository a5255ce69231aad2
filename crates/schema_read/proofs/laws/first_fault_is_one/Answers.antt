use Rattle.schema_read.proofs.LawLemmas as lemmas
use Rattle.schema_read.proofs.laws.first_fault_is_one.Goals as goal

pub returns : goal.returns
returns c = lemmas.first_fault_is_one
