use Rattle.std.proofs.Common.{◌+◌, List, Ok, Err, drop, sym, ◌∙◌, ap, subst, arith}
use Rattle.eval_core.specs.Making.{snapshot_of, snapshots_of}
use Rattle.eval_core.specs.Run.{Eval}
use Rattle.eval_core.specs.Scope.{gives}
use Rattle.snap_core.specs.Value as plains
use Rattle.snap_core.specs.View.{view, items_view}
use Rattle.snap_core.specs.declared.snap.Snap
use Rattle.snap_core.proofs.Views.{view-List}
use Rattle.answer_ops.proofs.Views.{answer-Several}
use Rattle.view_engine.specs.Did.{Read}
use Rattle.answer_ops.specs.View.{answer_of, answers_of}
use Rattle.view_engine.specs.Progress.{scope_of}
use Rattle.view_engine.proofs.Doing.{read-handed, read-then, read-stop, read-lift}
use Rattle.view_engine.proofs.LeavesMade.{copied-element, copied-end}
use Rattle.view_engine.proofs.Loosely.{snapshots-begin, snapshot-step, snapshot-unread, snapshots-end}
use Rattle.view_engine.proofs.telling.+snapshot.Goals as goal

pub snapshots-loop-value-init : goal.snapshots-loop-value-init
snapshots-loop-value-init g t c = snapshots-begin (scope_of g.S.Bodies.says c.args.scope.now) c.args.values.now c.new-items.result c.new-items.ensures

pub snapshots-returns-in_err-snapshot : goal.snapshots-returns-in_err-snapshot
snapshots-returns-in_err-snapshot g t c =
    let s = scope_of g.S.Bodies.says c.args.scope.now in
    let vs = c.args.values.now in
    let i = c.loop-value.value-index in
    let whole = snapshots_of s (answers_of vs) in
    read-handed items_view c.in_err-snapshot.field-0.0 c.from_residual.result whole c.from_residual.ensures.1
    (snapshot-unread s (drop i vs) c.value-item.result (drop (i + 1) vs) c.loop-value.items c.in_err-snapshot.field-0.0 whole
    (copied-element c.as_slice-value-items.result.now vs i c.value-item.result c.as_slice-value-items.ensures c.loop-value-test.true c.value-item.is) c.loop-value.invariant c.in_err-snapshot.ensures)

pub snapshots-loop-value-preserved : goal.snapshots-loop-value-preserved
snapshots-loop-value-preserved g t c =
    let s = scope_of g.S.Bodies.says c.args.scope.now in
    let vs = c.args.values.now in
    let i = c.loop-value.value-index in
    snapshot-step s (drop i vs) c.value-item.result (drop (i + 1) vs) c.loop-value.items c.push.new.self c.in_ok-snapshot.field-0 (snapshots_of s (answers_of vs))
    (copied-element c.as_slice-value-items.result.now vs i c.value-item.result c.as_slice-value-items.ensures c.loop-value-test.true c.value-item.is) c.in_ok-push.ensures.ok c.loop-value.invariant c.in_ok-snapshot.ensures

pub snapshots-returns : goal.snapshots-returns
snapshots-returns g t c =
    let s = scope_of g.S.Bodies.says c.args.scope.now in
    let vs = c.args.values.now in
    let i = c.loop-value.value-index in
    snapshots-end s (drop i vs) c.loop-value.items (snapshots_of s (answers_of vs))
    (copied-end c.as_slice-value-items.result.now vs i c.as_slice-value-items.ensures (omega (arith, c.loop-value-test.false))) c.loop-value.invariant

pub snapshot-returns-in_ok-snapshots-in-Several : goal.snapshot-returns-in_ok-snapshots-in-Several
snapshot-returns-in_ok-snapshots-in-Several g t c =
    let s = scope_of g.S.Bodies.says c.args.scope.now in
    let items = c.in_ok-snapshots-in-Several.field-0 in
    let next : plains.Items → Eval plains.Value = λ ps. gives (plains.list tt ps) in
    subst (λ y. Read view (Ok (Snap.List items)) (snapshot_of s y)) (sym (ap answer_of c.in-Several.is ∙ answer-Several c.in-Several.values))
    (read-then items_view view items (Ok (Snap.List items)) (snapshots_of s (answers_of c.in-Several.values)) next c.in_ok-snapshots-in-Several.ensures
    (read-lift view (Ok (Snap.List items)) (Ok (plains.list tt (items_view items))) (ap Ok (sym (view-List items)))))

pub snapshot-returns-in_err-snapshots-in-Several : goal.snapshot-returns-in_err-snapshots-in-Several
snapshot-returns-in_err-snapshots-in-Several g t c =
    let s = scope_of g.S.Bodies.says c.args.scope.now in
    let halt = c.in_err-snapshots-in-Several.field-0.0 in
    let next : plains.Items → Eval plains.Value = λ ps. gives (plains.list tt ps) in
    read-handed view halt c.from_residual-in_err-snapshots-in-Several.result (snapshot_of s (answer_of c.args.x.now)) c.from_residual-in_err-snapshots-in-Several.ensures.1
    (subst (λ y. Read {T = Snap.Snap} view (Err halt) (snapshot_of s y)) (sym (ap answer_of c.in-Several.is ∙ answer-Several c.in-Several.values))
    (read-stop {T = List Snap.Snap} {U = Snap.Snap} items_view view halt (snapshots_of s (answers_of c.in-Several.values)) next c.in_err-snapshots-in-Several.ensures))
