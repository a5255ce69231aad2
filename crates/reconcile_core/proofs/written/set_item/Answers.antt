use Rattle.std.proofs.Common.{◌≡◌, IfOk, subst, sym}
use Rattle.snap_core.specs.View.{view}
use Rattle.node_core.specs.View.{labelled}
use Rattle.reconcile_core.specs.Setting.{LoggedWriting, written}
use Rattle.reconcile_core.proofs.Writings.{written-so, set-apart, set-same}
use Rattle.reconcile_core.proofs.written.set_item.Goals as goal

pub returns : goal.returns
returns c =
    set-apart c.args.types.now.table (record { type = c.args.t.0; old = labelled c.args.old.now; new = view c.args.new.now; next = c.args.next }) _ (sym c.if-same_item.ensures)
    (written-so (record { value = c.in_ok-value.value; edits = c.in_ok-edits.edits; next = c.label_value.new.next }) c.args.next (labelled c.args.old.now) _ c.in_ok-value.ensures.value c.in_ok-edits.ensures c.in_ok-value.ensures.next)

pub returns-then-same_item : goal.returns-then-same_item
returns-then-same_item c =
    let P : LoggedWriting → Type 0 = λ x. IfOk c.reconcile.result (λ w. written w ≡ x) in
    subst P (set-same c.args.types.now.table (record { type = c.args.t.0; old = labelled c.args.old.now; new = view c.args.new.now; next = c.args.next }) (sym c.if-same_item.ensures)) c.reconcile.ensures
