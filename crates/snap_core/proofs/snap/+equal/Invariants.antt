-- The items so far are the same.
use Rattle.std.proofs.Common.{◌≡◌, take}
use Rattle.snap_core.proofs.snap.+equal.Given as goal

abbrev pub invariant-equal_items-loop-i : goal.invariant-equal_items-loop-i
invariant-equal_items-loop-i l = take l.i l.items ≡ take l.i l.others

abbrev pub invariant-equal_fields-loop-i : goal.invariant-equal_fields-loop-i
invariant-equal_fields-loop-i l = take l.i l.fields ≡ take l.i l.others
