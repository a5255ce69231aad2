-- Whatever reads what is left, reads the whole.
use Rattle.std.proofs.Common.{List, drop}
use Rattle.snap_core.specs.View.{items_view}
use Rattle.snap_core.specs.declared.snap.Snap.{Snap}
use Rattle.eval_core.specs.Making.{snapshots_of}
use Rattle.answer_ops.specs.View.{answers_of}
use Rattle.view_engine.specs.Progress.{scope_of}
use Rattle.view_engine.proofs.Loosely.{ReadsAll, snapshots_left}
use Rattle.view_engine.proofs.telling.+snapshot.Given as goal

abbrev pub invariant-snapshots-loop-value : goal.invariant-snapshots-loop-value
invariant-snapshots-loop-value g l =
    let s = scope_of g.S.Bodies.says l.scope in
    ReadsAll {T = List Snap} items_view (snapshots_left s (answers_of (drop l.value-index l.values)) (items_view l.items)) (snapshots_of s (answers_of l.values))
