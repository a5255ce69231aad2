use Rattle.node_core.proofs.Patches.{patch-add, patch-remove, patch-replace}
use Rattle.node_core.proofs.edit.LoggedEdit.patch.Goals as goal

pub returns-in_ok-snapshot-in-Add : goal.returns-in_ok-snapshot-in-Add
returns-in_ok-snapshot-in-Add c = rw c.in-Add.is (patch-add _ _ c.in_ok-snapshot-in-Add.field-0 c.in-Add.new (rw c.as_slice.ensures at c.in_ok-path.ensures) c.in_ok-snapshot-in-Add.ensures)

pub returns-in_ok-snapshot-in-Remove : goal.returns-in_ok-snapshot-in-Remove
returns-in_ok-snapshot-in-Remove c = rw c.in-Remove.is (patch-remove _ _ c.in_ok-snapshot-in-Remove.field-0 c.in-Remove.old (rw c.as_slice.ensures at c.in_ok-path.ensures) c.in_ok-snapshot-in-Remove.ensures)

pub returns-in_ok-snapshot-in-Replace-2 : goal.returns-in_ok-snapshot-in-Replace-2
returns-in_ok-snapshot-in-Replace-2 c =
    rw c.in-Replace.is (patch-replace _ _ c.in_ok-snapshot-in-Replace-2.field-0 c.in_ok-snapshot-in-Replace.field-0 c.in-Replace.old c.in-Replace.new (rw c.as_slice.ensures at c.in_ok-path.ensures) c.in_ok-snapshot-in-Replace-2.ensures c.in_ok-snapshot-in-Replace.ensures)
