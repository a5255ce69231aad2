-- What is found in the parts of a schema file.
use Rattle.std.specs.Prelude.{◌≡◌, ℕ, pos, List, codes, Some, Ok, MatchBool}
use Rattle.std.specs.Str.{bytes_eq}
use Rattle.snap_core.specs.Value.{Value, value_at, Fields}
use Rattle.schema_form.specs.declared.form.EntryNo.{EntryNo}
use Rattle.schema_form.specs.declared.form.SchemaForm.{SchemaForm}
use Rattle.schema_form.specs.declared.file.Found.{Found}
use Rattle.schema_form.specs.Entries.{entries}
use Rattle.schema_form.specs.Layout.{entry_named}
use Rattle.schema_form.specs.declared.entries.Gathered.{Gathered}
use Rattle.schema_form.specs.Gathering.{gathered, gathered_shown}
use Rattle.schema_form.specs.Form.{history_in}

-- the root that was found is the entry that a value names
abbrev pub IsNamed : Fields → Value → Found → Type 0
IsNamed types v found = (e : EntryNo) × (entry_named types v ≡ Some e) × (found.root ≡ Ok e)

-- the types that were found are those of a value
abbrev pub IsTyped : Value → Found → Type 0
IsTyped v found = (g : Gathered) × (gathered_shown g ≡ gathered (entries v)) × (found.types ≡ Ok g)

-- what is found with one part more
pub record IsNext (types : Fields) (old new : Found) (k : List ℕ) (v : Value) : Type 0 where
  pub history : MatchBool (bytes_eq k (codes "history")) (history_in (Some v) ≡ pos new.history) (new.history ≡ old.history)
  pub root : MatchBool (bytes_eq k (codes "root")) (IsNamed types v new) (new.root ≡ old.root)
  pub typed : MatchBool (bytes_eq k (codes "types")) (IsTyped v new) (new.types ≡ old.types)

-- what is found in all parts
pub record IsFound (types parts : Fields) (found : Found) : Type 0 where
  pub history : history_in (value_at (codes "history") parts) ≡ pos found.history
  pub root : (v : Value) → value_at (codes "root") parts ≡ Some v → IsNamed types v found
  pub typed : (v : Value) → value_at (codes "types") parts ≡ Some v → IsTyped v found

-- the form of these parts
pub record IsMadeOf (found : Found) (form : SchemaForm) : Type 0 where
  pub root : found.root ≡ Ok form.root
  pub types : found.types ≡ Ok (record { entries = form.entries; expressions = form.expressions; models = form.models; behaviours = form.behaviours; astray = form.astray })
  pub history : form.history ≡ found.history
