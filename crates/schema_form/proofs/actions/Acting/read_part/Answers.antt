use Rattle.schema_form.proofs.Saying.{length-targets}
use Rattle.schema_form.proofs.actions.Acting.read_part.Goals as goal

pub read_action_body-requires-clause-each : goal.read_action_body-requires-clause-each
read_action_body-requires-clause-each c = length-targets c.args.by.now c.requires.setting
