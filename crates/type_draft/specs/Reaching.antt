-- Types that are reached from a type, as they are found step by step.
use Rattle.std.specs.Prelude.{◌≡◌, ℕ, ◌+◌, ◌<◌, List, [], ◌++◌, length, count_by, slice_get, Bool, true, not, Option, Some, None, All, Contains}
use Rattle.snap_core.specs.declared.number.TypeNo.{TypeNo}
use Rattle.type_table.specs.declared.shape.Shape.{Shape}
use Rattle.type_table.specs.Table.{Table, shape_at, leads_of}

-- the types that a type leads on to at once; none where there is no such type
abbrev pub leads_at : Table → ℕ → List TypeNo
leads_at table t = leads_in (shape_at table t) where
  leads_in : Option Shape → List TypeNo
  leads_in (Some shape) = leads_of shape
  leads_in None = []

-- each shape leads on to types of the table
abbrev pub AreKnown : Table → Type 0
AreKnown table =
    All (λ (shape : Shape). All (λ (u : TypeNo). u.0 < length table.shapes) (leads_of shape)) table.shapes

-- each type that is marked is among those reached
abbrev pub AreReached : List Bool → List TypeNo → Type 0
AreReached marks reached = (k : ℕ) → slice_get marks k ≡ Some true → Contains reached (record { 0 = k })

-- How many types aren't marked, and how many are reached, taken together.
abbrev pub work_of : List Bool → List TypeNo → ℕ
work_of marks reached = count_by not marks + length reached

-- Those of these types that weren't reached were added to those reached, each with a mark.
pub record HasReached (types : List TypeNo) (old_marks : List Bool) (old : List TypeNo) (marks : List Bool) (new : List TypeNo) : Type 0 where
  pub added : List TypeNo
  pub grown : new ≡ old ++ added
  pub among : All (Contains types) added
  pub each : All (Contains new) types
  pub marked : AreReached marks new
  pub count : length marks ≡ length old_marks
  pub work : work_of marks new ≡ work_of old_marks old
