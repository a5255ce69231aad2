-- Levels of types: numbers that never rise along a lead.
use Rattle.std.specs.Prelude.{ℕ, ◌<◌, ◌≤◌, List, slice_index, All}
use Rattle.snap_core.specs.declared.number.TypeNo.{TypeNo}
use Rattle.type_table.specs.Table.{Table}
use Rattle.type_draft.specs.Reaching.{leads_at}

-- a type leads to none of a higher level
abbrev pub IsLevel : Table → List ℕ → ℕ → Type 0
IsLevel table levels t = All (λ (u : TypeNo). slice_index levels u.0 ≤ slice_index levels t) (leads_at table t)

-- the same of each type
abbrev pub AreLevels : Table → List ℕ → Type 0
AreLevels table levels = (t : ℕ) → IsLevel table levels t

-- a type leads to lower levels alone
abbrev pub IsAbove : Table → List ℕ → ℕ → Type 0
IsAbove table levels t = All (λ (u : TypeNo). slice_index levels u.0 < slice_index levels t) (leads_at table t)
