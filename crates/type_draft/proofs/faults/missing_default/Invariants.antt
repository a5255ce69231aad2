use Rattle.std.proofs.Common.{ℕ, ◌<◌}
use Rattle.type_core.specs.Sound.{HasDefault}
use Rattle.type_draft.proofs.faults.missing_default.Given as goal

abbrev pub invariant-loop-t : goal.invariant-loop-t
invariant-loop-t l = (k : ℕ) → k < l.t → HasDefault l.table l.defaults k
