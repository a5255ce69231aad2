use Rattle.std.proofs.Common.{sym, ◌∙◌}
use Rattle.snap_core.proofs.Views.{snap_of-view}
use Rattle.schema_form.proofs.numbers.read_scalar.Goals as goal

pub returns-clause-ok : goal.returns-clause-ok
returns-clause-ok c = c.in_ok-clone_in.ensures ∙ sym (snap_of-view c.args.value.now)
