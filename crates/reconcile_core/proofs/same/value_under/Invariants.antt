-- What is done so far, and what is left, are all.
use Rattle.std.proofs.Common.{◌≡◌, drop}
use Rattle.snap_core.specs.Value.{value_at}
use Rattle.snap_core.specs.View.{fields_view}
use Rattle.reconcile_core.proofs.same.value_under.Given as goal

abbrev pub invariant-loop-i : goal.invariant-loop-i
invariant-loop-i l = value_at l.key (fields_view (drop l.i l.fields)) ≡ value_at l.key (fields_view l.fields)
