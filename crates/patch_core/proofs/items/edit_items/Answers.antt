-- The view of a list has as many items as the list.
use Rattle.snap_core.proofs.InPlace.{count_of-items_view}
use Rattle.patch_core.proofs.items.edit_items.Goals as goal

pub returns-in-Add-clause-outcome : goal.returns-in-Add-clause-outcome
returns-in-Add-clause-outcome c = rw (c.in-Add.is, count_of-items_view c.args.items.now, ← c.written.ensures) c.add_item.ensures.outcome

pub returns-in-Replace-clause-outcome : goal.returns-in-Replace-clause-outcome
returns-in-Replace-clause-outcome c = rw (c.in-Replace.is, count_of-items_view c.args.items.now, ← c.written-in-Replace.ensures) c.replace_item.ensures.outcome

pub returns-in-Remove-clause-outcome : goal.returns-in-Remove-clause-outcome
returns-in-Remove-clause-outcome c = rw (c.in-Remove.is, count_of-items_view c.args.items.now) c.remove_item.ensures.outcome
