use Rattle.node_core.specs.View.{labelled}
use Rattle.reconcile_core.proofs.Writings.{written-so}
use Rattle.reconcile_core.proofs.written.reconcile.Goals as goal

pub returns : goal.returns
returns c =
    written-so (record { value = c.in_ok-value.value; edits = c.in_ok-edits.edits; next = c.label_value.new.next }) c.args.next (labelled c.args.old.now) _ c.in_ok-value.ensures.value c.in_ok-edits.ensures c.in_ok-value.ensures.next
