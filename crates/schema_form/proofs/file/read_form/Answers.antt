use Rattle.pointer_core.specs.declared.schema_rule.SchemaRule.TheVariants.{Shape}
use Rattle.schema_form.proofs.FileParts.{file_faults-other}
use Rattle.schema_form.proofs.Finding.{tells-here}
use Rattle.schema_form.proofs.file.read_form.Goals as goal

pub returns-in_default-clause-finds : goal.returns-in_default-clause-finds
returns-in_default-clause-finds c = tells-here c.wrong.result Shape _ c.wrong.ensures (file_faults-other c.args.file.now c.in_default.not-Dict)
