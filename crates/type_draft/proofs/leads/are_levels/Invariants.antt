-- The types passed by lead to none of higher levels.
use Rattle.std.proofs.Common.{ℕ, ◌<◌}
use Rattle.type_draft.specs.Levels.{IsLevel}
use Rattle.type_draft.proofs.leads.are_levels.Given as goal

abbrev pub invariant-loop-t : goal.invariant-loop-t
invariant-loop-t l = (k : ℕ) → k < l.t → IsLevel l.table l.numbers k
