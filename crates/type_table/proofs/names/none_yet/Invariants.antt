-- So many types have no end yet.
use Rattle.std.proofs.Common.{◌≡◌, replicate, None}
use Rattle.type_table.proofs.names.none_yet.Given as goal

abbrev pub invariant-loop-t : goal.invariant-loop-t
invariant-loop-t l = l.ends ≡ replicate l._t None
