-- What holds of bytes and of the answers to them, whatever the bytes are.
use Rattle.std.specs.Prelude.{◌≡◌, ℕ, List}
use Rattle.expr_form.specs.declared.fault.Fault.{Fault}
use Rattle.expr_core.specs.Schema.{Schema, behaviours_shown}
use Rattle.schema_read.specs.Schema.{Spells, HasFirst}

-- bytes that are a schema have no fault
abbrev pub SchemaHasNoFault : Type 0
SchemaHasNoFault = (bytes : List ℕ) (schema : Schema) (fault : Fault) → Spells bytes schema → ¬ (HasFirst bytes fault)

-- bytes have one first fault at most
abbrev pub FirstFaultIsOne : Type 0
FirstFaultIsOne = (bytes : List ℕ) (one other : Fault) → HasFirst bytes one → HasFirst bytes other → one ≡ other

-- schemas are the same, as far as their expressions and statements are seen
pub record AreOne (one other : Schema) : Type 0 where
  pub types : one.types ≡ other.types
  pub history : one.history ≡ other.history
  pub behaviours : behaviours_shown one ≡ behaviours_shown other

-- bytes are one schema at most
abbrev pub FileIsOneSchema : Type 0
FileIsOneSchema = (bytes : List ℕ) (one other : Schema) → Spells bytes one → Spells bytes other → AreOne one other
