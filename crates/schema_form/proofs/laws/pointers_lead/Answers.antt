use Rattle.schema_form.proofs.FileRead.{pointers-lead}
use Rattle.schema_form.proofs.laws.pointers_lead.Goals as goal

pub returns : goal.returns
returns c = pointers-lead
