use Rattle.schema_read.proofs.LawLemmas as lemmas
use Rattle.schema_read.proofs.laws.schema_has_no_fault.Goals as goal

pub returns : goal.returns
returns c = lemmas.schema_has_no_fault
