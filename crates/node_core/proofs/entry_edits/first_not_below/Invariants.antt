-- What is done so far, and what is left, are all.
use Rattle.std.proofs.Common.{◌≡◌, ◌+◌, drop}
use Rattle.edit_core.specs.LoggedBetween.{count_below}
use Rattle.node_core.specs.Olds.{old_fields_of}
use Rattle.node_core.proofs.entry_edits.first_not_below.Given as goal

abbrev pub invariant-loop-i : goal.invariant-loop-i
invariant-loop-i l = l.i + count_below l.key (old_fields_of (drop l.i l.olds)) ≡ l.fn.from + count_below l.key (old_fields_of (drop l.fn.from l.olds))
