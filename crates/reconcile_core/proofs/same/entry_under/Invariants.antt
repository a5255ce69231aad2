-- What is done so far, and what is left, are all.
use Rattle.std.proofs.Common.{◌≡◌, drop}
use Rattle.edit_core.specs.Template.{entry_at}
use Rattle.node_core.specs.View.{fields}
use Rattle.reconcile_core.proofs.same.entry_under.Given as goal

abbrev pub invariant-loop-i : goal.invariant-loop-i
invariant-loop-i l = entry_at l.key (fields (drop l.i l.parts)) ≡ entry_at l.key (fields l.parts)
