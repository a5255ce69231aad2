use Rattle.snap_core.specs.View.{view}
use Rattle.node_core.specs.View.{labelled, turn}
use Rattle.tree_core.specs.Written.{changed, goes_by, entry_of}
use Rattle.tree_core.proofs.Setting.{entry_set_by}
use Rattle.tree_core.proofs.writing.set_entry.Goals as goal

pub returns : goal.returns
returns c =
    entry_set_by changed c.placed_at.result (goes_by c.args.by.now) (entry_of c.args.entry.now) (labelled c.args.old.now) (view c.args.made.now) c.part_type-t.result.0
    (turn c.in_ok-turn.turn) (changed c.in_ok-part.part) c.part_type-t.ensures c.in_ok-turn.ensures c.in_ok-part.ensures c.placed_at.ensures
