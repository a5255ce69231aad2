use Rattle.std.proofs.Common.{ℕ, ◌<◌}
use Rattle.type_draft.specs.Passes.{IsFaultless}
use Rattle.type_draft.proofs.faults.check_types.Given as goal

abbrev pub invariant-loop-t : goal.invariant-loop-t
invariant-loop-t l = (k : ℕ) → k < l.t → IsFaultless l.table 0 k
