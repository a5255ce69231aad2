use Rattle.snap_core.specs.View.{fields_view}
use Rattle.pointer_core.specs.declared.schema_rule.SchemaRule.TheVariants.{Name}
use Rattle.schema_form.proofs.Finding.{tells-here}
use Rattle.schema_form.proofs.Naming.{word-known, word-unknown}
use Rattle.schema_form.proofs.leaves.known_word.Goals as goal

pub returns-in-Some-clause-finds : goal.returns-in-Some-clause-finds
returns-in-Some-clause-finds c = word-known (fields_view c.args.types.now) c.args.text.now c.in-Some.word c.in-Some.ensures

pub returns-in-None-clause-finds : goal.returns-in-None-clause-finds
returns-in-None-clause-finds c = tells-here c.wrong.result Name _ c.wrong.ensures (word-unknown (fields_view c.args.types.now) c.args.text.now c.in-None.ensures)
