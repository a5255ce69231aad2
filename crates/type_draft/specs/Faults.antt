-- What is wrong with a table of types, and which fault comes first.
use Rattle.std.specs.Prelude.{◌≡◌, ℕ, ◌<◌, ◌⊎◌, List, IsTrue, false, Some, None, Result, Ok, Err}
use Rattle.snap_core.specs.Value.{Value}
use Rattle.snap_core.specs.declared.snap.Snap.{Snap}
use Rattle.snap_core.specs.declared.number.TypeNo.{TypeNo}
use Rattle.type_table.specs.declared.shape.Shape.TheVariants.{Optional, Union}
use Rattle.pointer_core.specs.declared.schema_rule.SchemaRule.{SchemaRule}
use Rattle.pointer_core.specs.declared.schema_rule.SchemaRule.TheVariants as rule
use Rattle.type_draft.specs.declared.rule.DraftError.{DraftError}
use Rattle.type_draft.specs.declared.rule.DraftError.TheVariants as fault
use Rattle.type_table.specs.Table.{Table, shape_at}
use Rattle.type_table.specs.Names.{LeadsTo}
use Rattle.type_table.specs.Identifiers.{is_misplaced, misleads}
use Rattle.type_table.specs.Unions.{are_apart}
use Rattle.type_core.specs.Makes.{Makes}

-- a fault of a type
pub data HasFault (table : Table) : ℕ → SchemaRule → Type 0 where
  -- a type leads back to itself with no list, record or model between
  name : (t : ℕ) → LeadsTo table t t → HasFault table t rule.Name
  -- an identifier type stands elsewhere than directly at one property of a model
  identifier : (t : ℕ) → IsTrue (is_misplaced table t) → HasFault table t rule.Identifier
  -- a reference leads to no model with an identifier, or a safe one stands where it can't be cleared
  target : (t : ℕ) → IsTrue (misleads table t) → HasFault table t rule.Target
  -- the members of a union aren't told apart
  union : (t : ℕ) (ms : List TypeNo) → shape_at table t ≡ Some (Union ms) → are_apart table ms ≡ false
      → HasFault table t rule.Union
  -- an optional type makes nothing where no value is given: its default isn't made by its type, or is too
  -- heavy or too deep once it is made, or making it needs a default that is at fault or its own
  «default» : (t : ℕ) (u : TypeNo) (d : Snap) → shape_at table t ≡ Some (Optional u d)
      → ((s : Value) → ¬ (Makes table t None s)) → HasFault table t rule.Default

-- faults are looked for in two passes: names, identifiers, references and unions, then defaults
abbrev pub pass_of : SchemaRule → ℕ
pass_of rule.Default = 1
pass_of _ = 0

-- the order of the rules at one type in one pass
abbrev pub order_of : SchemaRule → ℕ
order_of rule.Name = 0
order_of rule.Identifier = 1
order_of rule.Target = 2
order_of rule.Union = 3
order_of _ = 4

-- one fault comes before another: by pass, then by type, then by the order of the rules
abbrev pub Precedes : ℕ × SchemaRule → ℕ × SchemaRule → Type 0
Precedes a b =
    (pass_of a.1 < pass_of b.1)
    ⊎ ((pass_of a.1 ≡ pass_of b.1) × (a.0 < b.0))
    ⊎ ((pass_of a.1 ≡ pass_of b.1) × (a.0 ≡ b.0) × (order_of a.1 < order_of b.1))

-- the first fault of a table
pub record IsFirstFault (table : Table) (t : ℕ) (rule : SchemaRule) : Type 0 where
  pub fault : HasFault table t rule
  pub first : (u : ℕ) (other : SchemaRule) → Precedes (u, other) (t, rule) → ¬ (HasFault table u other)

-- a fact of the type and the rule at fault, where there is one
abbrev pub IfWrong : {T : Type 0} → Result T DraftError → (TypeNo → SchemaRule → Type 0) → Type 0
IfWrong (Ok types) P = Unit {0}
IfWrong (Err (fault.Wrong t rule)) P = P t rule
IfWrong (Err fault.Memory) P = Unit {0}
