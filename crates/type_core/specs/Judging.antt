-- Which shape judges a value, where names, optional types, maybes and unions stand before it.
use Rattle.std.specs.Prelude.{ℕ, zero, suc, length, Bool, true, false, ◌&&◌, Option, Some, None, if◌then◌else◌}
use Rattle.snap_core.specs.Value.{Value, null}
use Rattle.snap_core.specs.declared.number.TypeNo.{TypeNo}
use Rattle.type_table.specs.declared.shape.Shape.{Shape}
use Rattle.type_table.specs.declared.shape.Shape.TheVariants.{Optional, Maybe, MaybeNull, Union, Named}
use Rattle.type_table.specs.Table.{Table, shape_at}
use Rattle.type_table.specs.Identifiers.{is_firm}
use Rattle.type_table.specs.Unions.{chosen}

abbrev pub is_null : Value → Bool
is_null null = true
is_null _ = false

-- the shape of a type for a value: none for null at a safe reference that can't be cleared
abbrev pub shape_for : Table → Value → ℕ → Option Shape
shape_for table v t = if is_firm table t && is_null v then None else shape_at table t

-- the shape that judges the value at a chosen member, if one is chosen
abbrev pub judged_by_choice : (ℕ → Option Shape) → Option TypeNo → Option Shape
judged_by_choice further (Some t) = further t.0
judged_by_choice further None = None

-- one step: names and optional types lead on, a maybe takes null itself, and a union leads to the member
-- that the value chooses
abbrev pub judged_step : Table → Value → (ℕ → Option Shape) → Option Shape → Option Shape
judged_step table v further (Some (Named u)) = further u.0
judged_step table v further (Some (Optional u d)) = further u.0
judged_step table v further (Some (Maybe u)) = if is_null v then Some (Maybe u) else further u.0
judged_step table v further (Some (MaybeNull u)) = if is_null v then Some (MaybeNull u) else further u.0
judged_step table v further (Some (Union ms)) = judged_by_choice further (chosen table ms v)
judged_step table v further shape = shape

-- the same within so many steps
abbrev pub judged_within : Table → Value → ℕ → ℕ → Option Shape
judged_within table v zero t = None
judged_within table v (suc most) t = judged_step table v (judged_within table v most) (shape_for table v t)

-- the shape that judges a value at a type; None where a union has no member for it, or where it is null
-- at a safe reference that can't be cleared
abbrev pub judged_by : Table → Value → ℕ → Option Shape
judged_by table v t = judged_within table v (length table.shapes) t
