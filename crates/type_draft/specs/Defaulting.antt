-- What optional types make of their defaults, as it is found round by round.
use Rattle.std.specs.Prelude.{◌≡◌, ℕ, List, length, count_by, IsTrue, Option, Some, None, is_none, Ok}
use Rattle.snap_core.specs.Value.{Value}
use Rattle.snap_core.specs.View.{view}
use Rattle.snap_core.specs.declared.snap.Snap.{Snap}
use Rattle.snap_core.specs.declared.number.TypeNo.{TypeNo}
use Rattle.type_table.specs.declared.shape.Shape.TheVariants.{Optional}
use Rattle.type_table.specs.Table.{Table, shape_at, default_at}
use Rattle.type_core.specs.Making.{maker_of}
use Rattle.type_core.specs.Makes.{is_light}
use Rattle.type_core.specs.Sound.{AreMade, IsOptional}

-- how many types have no default so far
abbrev pub unknown_count : List (Option Snap) → ℕ
unknown_count defaults = count_by is_none defaults

-- defaults that are known so far: each is what is made with those that are known
pub record AreSoFar (table : Table) (defaults : List (Option Snap)) : Type 0 where
  pub made : AreMade table defaults
  pub kept : (t : ℕ) (s : Value) → default_at defaults t ≡ Some s
      → (u : TypeNo) (d : Snap) → shape_at table t ≡ Some (Optional u d)
      → maker_of table defaults (view d) u.0 ≡ Ok s
  pub only : (t : ℕ) (s : Value) → default_at defaults t ≡ Some s → IsOptional table t
  pub count : length defaults ≡ length table.shapes

-- a default that isn't known yet
pub record IsNew (table : Table) (defaults : List (Option Snap)) (t : ℕ) (s : Value) : Type 0 where
  pub of : TypeNo
  pub given : Snap
  pub shape : shape_at table t ≡ Some (Optional of given)
  pub unknown : default_at defaults t ≡ None
  pub made : maker_of table defaults (view given) of.0 ≡ Ok s
  pub light : IsTrue (is_light s)

-- a value that is made of another, and is light enough
pub record IsLightMade (table : Table) (defaults : List (Option Snap)) (t : ℕ) (given s : Value) : Type 0 where
  pub made : maker_of table defaults given t ≡ Ok s
  pub light : IsTrue (is_light s)

-- nothing light enough is made of the value
abbrev pub MakesNoLight : Table → List (Option Snap) → ℕ → Value → Type 0
MakesNoLight table defaults t given = (s : Value) → ¬ (IsLightMade table defaults t given s)
