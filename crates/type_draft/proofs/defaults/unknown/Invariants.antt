use Rattle.std.proofs.Common.{◌≡◌, replicate, None}
use Rattle.type_draft.proofs.defaults.unknown.Given as goal

abbrev pub invariant-loop-t : goal.invariant-loop-t
invariant-loop-t l = l.defaults ≡ replicate l._t None
