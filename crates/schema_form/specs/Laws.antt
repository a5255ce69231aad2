-- What holds of each file without a fault in form and of the form that it has.
use Rattle.std.specs.Prelude.{◌≡◌, ℕ, ◌+◌, ◌<◌, List, [], ◌∷◌, ◌++◌, length, map, codes, decimal, slice_get, Option, Some, None, All}
use Rattle.snap_core.specs.Value.{Value, text, value_at, keys_of, IsOrdered, Fields}
use Rattle.snap_core.specs.Level.{Step, at_index, at_key, child}
use Rattle.snap_core.specs.declared.number.TypeNo.{TypeNo}
use Rattle.type_table.specs.declared.shape.Property.{Property}
use Rattle.pointer_core.specs.Path.{Path}
use Rattle.schema_form.specs.declared.form.SchemaForm.{SchemaForm}
use Rattle.schema_form.specs.declared.form.Entry.{Entry}
use Rattle.schema_form.specs.declared.form.ModelForm.{ModelForm}
use Rattle.schema_form.specs.declared.form.Kind.{Kind}
use Rattle.schema_form.specs.declared.form.Kind.TheVariants as kind
use Rattle.schema_form.specs.declared.form.Step.TheVariants.{Held, Defaulted, Refined, Member}
use Rattle.schema_form.specs.Faults.{file_faults}
use Rattle.schema_form.specs.Entries.{entries, types_of}
use Rattle.schema_form.specs.Form.{IsForm}
use Rattle.schema_form.specs.Pointers.{IsPointer, places_of, step_path, entry_path, property_path}
use Rattle.schema_form.specs.Reading.{kind_at, IsReadFrom, entry_names, name_at}

-- the token of a step: an item's index in decimal, a field's key
abbrev pub step_token : Step → List ℕ
step_token (at_index i) = decimal i
step_token (at_key key) = key

-- a path leads from a value to a part of it, token by token
pub data PathLeads : Value → Path → Value → Type 0 where
  ended : (v : Value) → PathLeads v [] v
  further : (v w x : Value) (step : Step) (path : Path) → child step v ≡ Some w → PathLeads w path x
      → PathLeads v (step_token step ∷ path) x

-- a file with its keys in order and without a fault in form has this form
pub record HasForm (file : Value) (form : SchemaForm) : Type 0 where
  pub ordered : IsOrdered file
  pub faultless : file_faults file ≡ []
  pub fits : IsForm file form

-- the pointer of type expression t of a form
abbrev pub IsPointerIn : SchemaForm → ℕ → Path → Type 0
IsPointerIn form t path = IsPointer form.entries form.models (places_of form.expressions) t path

-- a type expression that stands directly inside another, with the tokens that lead to it from there
abbrev pub Inner : Type 0
Inner = Path × TypeNo

-- the members of a union, the first of which has this index; the properties of a model
abbrev pub inner_members : ℕ → List TypeNo → List Inner
inner_members i [] = []
inner_members i (u ∷ us) = (step_path (Member i), u) ∷ inner_members (i + 1) us

abbrev pub inner_properties : Option ModelForm → List Inner
inner_properties (Some its) = map (λ (p : Property). (property_path p.name, p.of)) its.properties
inner_properties None = []

-- what stands directly inside a type expression that says this
abbrev pub inner_of : SchemaForm → Kind → List Inner
inner_of form (kind.Holder h u) = (step_path (Held h), u) ∷ []
inner_of form (kind.Optional u default) = (step_path Defaulted, u) ∷ []
inner_of form (kind.Refinement u conditions) = (step_path Refined, u) ∷ []
inner_of form (kind.Union members) = inner_members 0 members
inner_of form (kind.Model m) = inner_properties (slice_get form.models m.0)
inner_of form _ = []

-- the pointer of an expression inside another goes on from that of the other
abbrev pub IsInside : SchemaForm → Path → Inner → Type 0
IsInside form pointer one = IsPointerIn form one.1.0 (pointer ++ one.0)

-- Type expression t has one pointer, which leads in the file to the value that it is read from; the pointers of the expressions inside it go on from there.
pub record IsReadAt (file : Value) (form : SchemaForm) (t : ℕ) : Type 0 where
  pub value : Value
  pub read : IsReadFrom form t value
  pub pointer : Path
  pub is : IsPointerIn form t pointer
  pub only : (path : Path) → IsPointerIn form t path → path ≡ pointer
  pub leads : PathLeads file pointer value
  pub inner : (k : Kind) → kind_at form t ≡ Some k → All (IsInside form pointer) (inner_of form k)

-- each type expression of a file's form is read from the value to which its pointer leads in the file
abbrev pub PointersLead : Type 0
PointersLead = (file : Value) (form : SchemaForm) (t : ℕ) → HasForm file form → t < length form.expressions → IsReadAt file form t

-- an entry's type expression stands under its name, and is read from the value there
pub record IsReadUnderName (types : Fields) (form : SchemaForm) (entry : Entry) : Type 0 where
  pub value : Value
  pub there : value_at entry.name types ≡ Some value
  pub is : IsPointerIn form entry.of.0 (entry_path entry.name)
  pub read : IsReadFrom form entry.of.0 value

-- the entries of a form are those of the file's types, in order, and the root is the entry that the file names
pub record AreEntriesOf (file : Value) (form : SchemaForm) : Type 0 where
  pub names : entry_names form ≡ keys_of (types_of file)
  pub read : All (IsReadUnderName (types_of file) form) form.entries
  pub root : (s : List ℕ) × (value_at (codes "root") (entries file) ≡ Some (text s)) × (name_at form form.root ≡ Some s)

-- the entries of a file's form are its types
abbrev pub EntriesAreTypes : Type 0
EntriesAreTypes = (file : Value) (form : SchemaForm) → HasForm file form → AreEntriesOf file form
