use Rattle.snap_core.specs.View.{view}
use Rattle.node_core.specs.View.{labelled}
use Rattle.tree_core.specs.Written.{changed, goes_by, item_of}
use Rattle.tree_core.proofs.Setting.{item_put_by}
use Rattle.tree_core.proofs.writing.put_item.Goals as goal

pub returns : goal.returns
returns c =
    item_put_by (goes_by c.args.by.now) (item_of c.args.item.now) (labelled c.args.old.now) (view c.args.value.now) (view c.in_ok-made.made) c.part_type-t.result.0
    (changed c.in_ok-part.part) (changed c.in_ok-placed_at.field-0) c.in_ok-made.ensures.made c.part_type-t.ensures c.in_ok-part.ensures c.in_ok-placed_at.ensures
