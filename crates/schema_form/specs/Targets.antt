-- What each entry of the types is to an expression that names it.
use Rattle.std.specs.Prelude.{ℕ, ◌+◌, List, [], ◌∷◌, Bool, true, false, ◌||◌, Option, Some, None, if◌then◌else◌}
use Rattle.snap_core.specs.Value.{Value, text, no_members, member, Fields}
use Rattle.snap_core.specs.declared.number.ModelNo.{ModelNo}
use Rattle.expr_form.specs.declared.models.Target.{Target}
use Rattle.expr_form.specs.declared.models.Target.TheVariants as target
use Rattle.expr_form.specs.Models.{Lookup, target_of}
use Rattle.schema_form.specs.declared.form.Plain.{Plain}
use Rattle.schema_form.specs.declared.form.Plain.TheVariants.{Identifier, IdentifierNumber}
use Rattle.schema_form.specs.Words.{plain_of}
use Rattle.schema_form.specs.Entries.{model_in, properties_in}

-- whether a plain type is an identifier's
abbrev pub is_identifier : Option Plain → Bool
is_identifier (Some Identifier) = true
is_identifier (Some IdentifierNumber) = true
is_identifier _ = false

-- whether a type is directly the word for one
abbrev pub says_identifier : Value → Bool
says_identifier (text s) = is_identifier (plain_of s)
says_identifier _ = false

-- whether one of some properties is an identifier
abbrev pub has_identifier : Fields → Bool
has_identifier no_members = false
has_identifier (member k v ms) = says_identifier v || has_identifier ms

-- an entry that is the model of a number, or that is none
abbrev pub model_target : ModelNo → Value → Target
model_target m model = if has_identifier (properties_in model) then target.Identified m else target.Model m

abbrev pub entry_target : ℕ → Option Value → Target
entry_target n (Some model) = model_target (record { 0 = n }) model
entry_target n None = target.Other

-- the number of the next model
abbrev pub next_model : ℕ → Option Value → ℕ
next_model n (Some model) = n + 1
next_model n None = n

-- what each entry is, where the first model has a number that is given
abbrev pub targets_from : ℕ → Fields → List Target
targets_from n no_members = []
targets_from n (member k v ms) = entry_target n (model_in v) ∷ targets_from (next_model n (model_in v)) ms

-- what the names of entries lead to
abbrev pub lookup : Fields → Lookup
lookup types = target_of types (targets_from 0 types)
