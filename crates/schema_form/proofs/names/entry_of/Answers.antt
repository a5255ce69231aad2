use Rattle.std.proofs.Common.{sym}
use Rattle.snap_core.specs.View.{fields_view}
use Rattle.schema_form.proofs.Naming.{entry_of-at, entry_of-none}
use Rattle.schema_form.proofs.names.entry_of.Goals as goal

pub returns-in-Some : goal.returns-in-Some
returns-in-Some c = sym (entry_of-at c.args.name.now c.args.types.now c.in-Some.at c.requires c.in-Some.ensures.within c.in-Some.ensures.key)

pub returns-in-None : goal.returns-in-None
returns-in-None c = sym (entry_of-none c.args.name.now (fields_view c.args.types.now) c.in-None.ensures.found)
