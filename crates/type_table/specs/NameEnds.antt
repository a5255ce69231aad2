-- The types that names stand for, as they are found.
use Rattle.std.specs.Prelude.{◌≡◌, ℕ, ◌≤◌, List, slice_get, Option, Some}
use Rattle.snap_core.specs.declared.number.TypeNo.{TypeNo}
use Rattle.type_table.specs.Table.{Table}
use Rattle.type_table.specs.Names.{named_within, named_by}

-- each end that is known is the type that the type is, names followed
abbrev pub AreEnds : Table → List (Option TypeNo) → Type 0
AreEnds table ends = (t : ℕ) (u : TypeNo) → slice_get ends t ≡ Some (Some u) → named_by table t ≡ u.0

-- the same of the type that is reached through so many names or more
abbrev pub AreEndsWithin : Table → ℕ → List (Option TypeNo) → Type 0
AreEndsWithin table most ends =
    (m : ℕ) → most ≤ m → (t : ℕ) (u : TypeNo) → slice_get ends t ≡ Some (Some u) → named_within table m t ≡ u.0
