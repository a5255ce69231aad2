-- What stands behind names, optional types and maybes, as it is found once.
use Rattle.std.specs.Prelude.{◌≡◌, ℕ, List, slice_get, Bool, Some}
use Rattle.snap_core.specs.Value.{Value}
use Rattle.snap_core.specs.declared.number.TypeNo.{TypeNo}
use Rattle.type_table.specs.Table.{Table}
use Rattle.type_core.specs.Judging.{is_null, judged_by}

-- a type is judged as another, for null or for every value but null
abbrev pub IsJudgedAs : Table → Bool → ℕ → TypeNo → Type 0
IsJudgedAs table null t u = (v : Value) → is_null v ≡ null → judged_by table v t ≡ judged_by table v u.0

-- the same of each type, and of the type beside it in the list
abbrev pub AreBehind : Table → Bool → List TypeNo → Type 0
AreBehind table null ends = (t : ℕ) (u : TypeNo) → slice_get ends t ≡ Some u → IsJudgedAs table null t u
