use Rattle.snap_core.specs.View.{view}
use Rattle.node_core.specs.View.{labelled}
use Rattle.tree_core.specs.Written.{changed, goes_by}
use Rattle.tree_core.proofs.Setting.{whole_made_by}
use Rattle.tree_core.proofs.whole.make_whole.Goals as goal

pub returns : goal.returns
returns c =
    whole_made_by (goes_by c.args.by.now) c.args.kind (view c.args.value.now) (labelled c.args.node.now) (view c.in_ok-made.made) c.own_type-t.result.0
    (changed c.in_ok-reconcile.field-0) c.in_ok-made.ensures.made c.own_type-t.ensures c.in_ok-reconcile.ensures
