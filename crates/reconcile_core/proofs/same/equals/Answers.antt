use Rattle.node_core.proofs.PlainValues.{told_equal}
use Rattle.reconcile_core.proofs.same.equals.Goals as goal

pub returns : goal.returns
returns c = told_equal c.equal.result c.args.old.now c.args.new.now c.equal.ensures
