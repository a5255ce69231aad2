use Rattle.schema_read.proofs.LawLemmas as lemmas
use Rattle.schema_read.proofs.laws.file_is_one_schema.Goals as goal

pub returns : goal.returns
returns c = lemmas.file_is_one_schema c.types_are_one.ensures
