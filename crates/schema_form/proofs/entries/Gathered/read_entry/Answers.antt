use Rattle.std.proofs.Common.{sym}
use Rattle.snap_core.specs.View.{view}
use Rattle.schema_form.proofs.Orders.{model-ordered}
use Rattle.schema_form.proofs.entries.Gathered.read_entry.Goals as goal

pub read_model-requires-clause-ordered : goal.read_model-requires-clause-ordered
read_model-requires-clause-ordered c = model-ordered (view c.args.field.now.value) (view c.in-Some.model.now) (sym c.in-Some.ensures) c.requires.ordered
