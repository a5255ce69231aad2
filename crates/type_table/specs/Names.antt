-- Names that stand for types.
use Rattle.std.specs.Prelude.{◌≡◌, ℕ, zero, suc, length, Option, Some, Contains}
use Rattle.snap_core.specs.declared.number.TypeNo.{TypeNo}
use Rattle.type_table.specs.declared.shape.Shape.{Shape}
use Rattle.type_table.specs.declared.shape.Shape.TheVariants.{Named}
use Rattle.type_table.specs.Table.{Table, shape_at, leads_of}

-- one name further, or the type itself where it is no name
abbrev pub named_step : (ℕ → ℕ) → ℕ → Option Shape → ℕ
named_step further t (Some (Named u)) = further u.0
named_step further t _ = t

-- the type that a name stands for, going through at most so many names
abbrev pub named_within : Table → ℕ → ℕ → ℕ
named_within table zero t = t
named_within table (suc most) t = named_step (named_within table most) t (shape_at table t)

-- the type that a type is, names followed; where names lead in a circle, one of them
abbrev pub named_by : Table → ℕ → ℕ
named_by table t = named_within table (length table.shapes) t

-- the shape of a type, names followed
abbrev pub shape_by : Table → ℕ → Option Shape
shape_by table t = shape_at table (named_by table t)

-- one type leads to another by one step or more, with no list, record or model between
pub data LeadsTo (table : Table) : ℕ → ℕ → Type 0 where
  at_once : (t : ℕ) (shape : Shape) (u : TypeNo) → shape_at table t ≡ Some shape
      → Contains (leads_of shape) u → LeadsTo table t u.0
  by_way : (t : ℕ) (shape : Shape) (u : TypeNo) (w : ℕ) → shape_at table t ≡ Some shape
      → Contains (leads_of shape) u → LeadsTo table u.0 w → LeadsTo table t w
