use Rattle.schema_form.proofs.FileRead.{entries-are-types}
use Rattle.schema_form.proofs.laws.entries_are_types.Goals as goal

pub returns : goal.returns
returns c = entries-are-types
