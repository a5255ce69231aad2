-- Faults as they are looked for, type by type.
use Rattle.std.specs.Prelude.{◌≡◌, ℕ, ◌<◌, List, Option, Some, None}
use Rattle.snap_core.specs.declared.snap.Snap.{Snap}
use Rattle.snap_core.specs.declared.number.TypeNo.{TypeNo}
use Rattle.type_table.specs.declared.shape.Shape.TheVariants.{Optional}
use Rattle.pointer_core.specs.declared.schema_rule.SchemaRule.{SchemaRule}
use Rattle.type_table.specs.Table.{Table, shape_at, default_at}
use Rattle.type_draft.specs.Faults.{HasFault, pass_of, order_of}

-- a type has no fault of a pass
abbrev pub IsFaultless : Table → ℕ → ℕ → Type 0
IsFaultless table pass t = (rule : SchemaRule) → pass_of rule ≡ pass → ¬ (HasFault table t rule)

-- the first fault of a type in a pass
pub record IsFirstOf (table : Table) (pass t : ℕ) (rule : SchemaRule) : Type 0 where
  pub fault : HasFault table t rule
  pub of_pass : pass_of rule ≡ pass
  pub first : (other : SchemaRule) → pass_of other ≡ pass → order_of other < order_of rule
      → ¬ (HasFault table t other)

-- an optional type whose default isn't known
pub record IsMissing (table : Table) (defaults : List (Option Snap)) (t : ℕ) : Type 0 where
  pub of : TypeNo
  pub given : Snap
  pub shape : shape_at table t ≡ Some (Optional of given)
  pub unknown : default_at defaults t ≡ None
