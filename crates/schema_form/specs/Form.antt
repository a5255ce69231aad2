-- Which form a schema file has, and what holds of each form.
use Rattle.std.specs.Prelude.{◌≡◌, ℕ, ◌<◌, ℤ, pos, length, map, codes, slice_get, Option, Some, None, All}
use Rattle.snap_core.specs.Value.{Value, integer, value_at, IsPlain, AreAscending}
use Rattle.snap_core.specs.View.{view}
use Rattle.snap_core.specs.declared.number.TypeNo.{TypeNo}
use Rattle.type_table.specs.Table.{AreNamed, AreTyped}
use Rattle.schema_form.specs.declared.form.SchemaForm.{SchemaForm}
use Rattle.schema_form.specs.declared.form.Entry.{Entry}
use Rattle.schema_form.specs.declared.form.EntryNo.{EntryNo}
use Rattle.schema_form.specs.declared.form.ModelForm.{ModelForm}
use Rattle.schema_form.specs.declared.form.Expression.{Expression}
use Rattle.schema_form.specs.declared.form.Word.TheVariants as word
use Rattle.schema_form.specs.declared.form.Kind.{Kind}
use Rattle.schema_form.specs.declared.form.Kind.TheVariants as kind
use Rattle.schema_form.specs.Entries.{entries, types_of}
use Rattle.schema_form.specs.Pointers.{places_of, ArePlaces}
use Rattle.schema_form.specs.Layout.{entry_named}
use Rattle.schema_form.specs.Gathering.{gathered, form_shown}
use Rattle.schema_form.specs.declared.form.Astray.{Astray}
use Rattle.model_syntax.specs.Shown.{IsInOrder, behaviour_shown}

-- the entry that the root names
abbrev pub root_in : Value → Option Value → Option EntryNo
root_in file (Some v) = entry_named (types_of file) v
root_in file None = None

abbrev pub root_of : Value → Option EntryNo
root_of file = root_in file (value_at (codes "root") (entries file))

-- how long the history is: 50 where the file doesn't say
abbrev pub history_in : Option Value → ℤ
history_in (Some (integer z)) = z
history_in _ = pos 50

abbrev pub history_of : Value → ℤ
history_of file = history_in (value_at (codes "history") (entries file))

-- the form of a file: what its types say, its root and its history
pub record IsForm (file : Value) (form : SchemaForm) : Type 0 where
  pub types : gathered (types_of file) ≡ form_shown form
  pub root : root_of file ≡ Some form.root
  pub history : history_of file ≡ pos form.history

-- the types, the entry and the model that an expression speaks of are there, and values in it are plain
abbrev pub IsKindIn : SchemaForm → Kind → Type 0
IsKindIn form (kind.Word (word.Named e)) = e.0 < length form.entries
IsKindIn form (kind.Reference e) = e.0 < length form.entries
IsKindIn form (kind.SafeReference e) = e.0 < length form.entries
IsKindIn form (kind.Literal l) = IsPlain (view l)
IsKindIn form (kind.Optional u d) = (u.0 < length form.expressions) × IsPlain (view d)
IsKindIn form (kind.Holder h u) = u.0 < length form.expressions
IsKindIn form (kind.Union us) = All (λ (u : TypeNo). u.0 < length form.expressions) us
IsKindIn form (kind.Refinement u cs) = u.0 < length form.expressions
IsKindIn form (kind.Model m) = m.0 < length form.models
IsKindIn form _ = Unit {0}

-- the properties of a model are named in order, and their types are there
pub record IsModelIn (form : SchemaForm) (model : ModelForm) : Type 0 where
  pub named : AreNamed model.properties
  pub typed : AreTyped (length form.expressions) model.properties

-- all numbers in a form name what is there, and names stand in order
pub record IsWhole (form : SchemaForm) : Type 0 where
  pub kinds : (n : ℕ) (e : Expression) → slice_get form.expressions n ≡ Some e → IsKindIn form e.kind
  pub places : ArePlaces form.entries form.models (places_of form.expressions)
  pub models : (n : ℕ) (model : ModelForm) → slice_get form.models n ≡ Some model → IsModelIn form model
  pub typed : All (λ (e : Entry). e.of.0 < length form.expressions) form.entries
  pub named : AreAscending (map (λ (e : Entry). e.name) form.entries)
  pub root : form.root.0 < length form.entries
  pub behaviours : length form.behaviours ≡ length form.models
  pub ordered : All (λ b. IsInOrder (behaviour_shown b)) form.behaviours
  pub astray : (a : Astray) → form.astray ≡ Some a → a.model.0 < length form.models
