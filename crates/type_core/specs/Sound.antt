-- What holds of the types of a schema that has no fault.
use Rattle.std.specs.Prelude.{◌≡◌, ℕ, ◌<◌, List, length, false, IsTrue, IsSome, Option, Some, None, Ok}
use Rattle.snap_core.specs.Value.{Value}
use Rattle.snap_core.specs.View.{view}
use Rattle.snap_core.specs.declared.snap.Snap.{Snap}
use Rattle.snap_core.specs.declared.number.TypeNo.{TypeNo}
use Rattle.type_table.specs.declared.shape.Shape.TheVariants.{Optional, Union}
use Rattle.type_table.specs.Table.{Table, Catalog, IsBegun, plan_of, shape_at, default_at}
use Rattle.type_table.specs.Names.{LeadsTo}
use Rattle.type_table.specs.Identifiers.{is_misplaced, misleads}
use Rattle.type_table.specs.Unions.{are_apart}
use Rattle.type_core.specs.Making.{maker_of}
use Rattle.type_core.specs.Makes.{Makes, is_light}

-- each default that is known is what the type of its number makes where no value is given
abbrev pub AreMade : Table → List (Option Snap) → Type 0
AreMade table defaults = (t : ℕ) (s : Value) → default_at defaults t ≡ Some s → Makes table t None s

-- where a type is optional, and what is made of its default is light enough, that is known
abbrev pub IsTried : Table → List (Option Snap) → ℕ → Type 0
IsTried table defaults t =
    (u : TypeNo) (d : Snap) (s : Value) → shape_at table t ≡ Some (Optional u d)
    → maker_of table defaults (view d) u.0 ≡ Ok s → IsTrue (is_light s) → default_at defaults t ≡ Some s

-- the same of each type
abbrev pub AreAll : Table → List (Option Snap) → Type 0
AreAll table defaults = (t : ℕ) → IsTried table defaults t

-- where a type is optional, its default is known
abbrev pub HasDefault : Table → List (Option Snap) → ℕ → Type 0
HasDefault table defaults t =
    (u : TypeNo) (d : Snap) → shape_at table t ≡ Some (Optional u d) → IsSome (default_at defaults t)

abbrev pub IsOptional : Table → ℕ → Type 0
IsOptional table t = (u : TypeNo) × (d : Snap) × (shape_at table t ≡ Some (Optional u d))

-- Each optional type has a known default, that is what it makes where no value is given, and no other type
-- has one. There is a place for each type.
pub record HasDefaults (types : Catalog) : Type 0 where
  pub known : (t : ℕ) → HasDefault types.table types.defaults t
  pub made : AreMade types.table types.defaults
  pub only : (t : ℕ) (s : Value) → default_at types.defaults t ≡ Some s → IsOptional types.table t
  pub count : length types.defaults ≡ length types.table.shapes

-- types without a fault: they name what is there, none leads back to itself, identifiers and references
-- stand where they may and lead to models with an identifier, unions are told apart, and each optional type
-- has its default
pub record IsSound (types : Catalog) : Type 0 where
  pub begun : IsBegun (plan_of types.table)
  pub root : types.root.0 < length types.table.models
  pub loopless : (t : ℕ) → ¬ (LeadsTo types.table t t)
  pub placed : (t : ℕ) → is_misplaced types.table t ≡ false
  pub led : (t : ℕ) → misleads types.table t ≡ false
  pub apart : (t : ℕ) (ms : List TypeNo) → shape_at types.table t ≡ Some (Union ms)
      → IsTrue (are_apart types.table ms)
  pub defaults : HasDefaults types
  pub all : AreAll types.table types.defaults

-- sound types of one table and one root are the same
abbrev pub TypesAreOne : Type 0
TypesAreOne = (a b : Catalog) → IsSound a → IsSound b → a.table ≡ b.table → a.root ≡ b.root → a ≡ b
