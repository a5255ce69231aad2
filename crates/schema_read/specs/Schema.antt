-- Schema files: which schema a file is, and which fault of it comes first.
use Rattle.std.specs.Prelude.{◌≡◌, ℕ, List, [], ◌∷◌, map, codes, true, false, slice_get, Some, None, IsSomeAnd}
use Rattle.snap_core.specs.Value.{Value}
use Rattle.snap_core.specs.declared.number.ModelNo.{ModelNo}
use Rattle.pointer_core.specs.Path.{Path}
use Rattle.pointer_core.specs.declared.schema_rule.SchemaRule.{SchemaRule}
use Rattle.pointer_core.specs.declared.schema_rule.SchemaRule.TheVariants.{Target}
use Rattle.snap_json.specs.Loose.{loosely}
use Rattle.type_core.specs.Sound.{IsSound}
use Rattle.type_draft.specs.Faults.{HasFault, IsFirstFault}
use Rattle.schema_form.specs.declared.form.SchemaForm.{SchemaForm}
use Rattle.schema_form.specs.declared.form.Astray.{Astray}
use Rattle.schema_form.specs.declared.form.ModelForm.{ModelForm}
use Rattle.expr_form.specs.declared.fault.Fault.{Fault}
use Rattle.model_syntax.specs.Shown.{behaviour_shown}
use Rattle.schema_form.specs.Faults.{file_faults, first}
use Rattle.schema_form.specs.Form.{IsForm}
use Rattle.schema_form.specs.Pointers.{IsPointer, places_of}
use Rattle.expr_core.specs.Schema.{Schema, behaviours_shown}
use Rattle.schema_read.specs.Types.{table_of, root_of}
use Rattle.schema_read.specs.Astray.{astray_path, stands_before, is_before}

-- A form means this schema: its root is a model, its types are those of the expressions and models, none is at fault, no expression goes astray, each optional type has its default as its own type makes it, and each model has the form's behaviour.
pub record Means (form : SchemaForm) (schema : Schema) : Type 0 where
  pub root : root_of form ≡ Some schema.types.root
  pub types : schema.types.table ≡ table_of form
  pub faultless : (t : ℕ) (rule : SchemaRule) → ¬ (HasFault schema.types.table t rule)
  pub sound : IsSound schema.types
  pub history : schema.history ≡ form.history
  pub straight : form.astray ≡ None
  pub behaviours : behaviours_shown schema ≡ map behaviour_shown form.behaviours

-- The first fault of a form: a root that is no model; otherwise, in document order, the first fault of the types, at the type expression where it lies, and the first expression that goes astray; otherwise the first fault of a default.
pub data IsFirstOf (form : SchemaForm) : Fault → Type 0 where
  at_root : root_of form ≡ None → IsFirstOf form (record { path = codes "root" ∷ []; rule = Target })
  at_type : (root : ModelNo) (t : ℕ) (path : Path) (rule : SchemaRule) → root_of form ≡ Some root → IsFirstFault (table_of form) t rule
      → is_before t rule form.astray ≡ true → IsPointer form.entries form.models (places_of form.expressions) t path → IsFirstOf form (record { path = path; rule = rule })
  at_astray : (root : ModelNo) (a : Astray) (model : ModelForm) → root_of form ≡ Some root → form.astray ≡ Some a
      → ((t : ℕ) (rule : SchemaRule) → HasFault (table_of form) t rule → stands_before t rule a ≡ false)
      → slice_get form.models a.model.0 ≡ Some model → IsFirstOf form (record { path = astray_path model.name a.path; rule = Target })

-- A file is this schema: it has no fault in form, names, repetitions and the length of the history, and its form means the schema.
pub record IsSchema (file : Value) (schema : Schema) : Type 0 where
  pub formed : file_faults file ≡ []
  pub form : SchemaForm
  pub is : IsForm file form
  pub means : Means form schema

-- The first fault of a file: in form, names, repetitions and the length of the history; where there is none, the first of its form.
pub data IsFirst (file : Value) : Fault → Type 0 where
  in_file : (fault : Fault) → first (file_faults file) ≡ Some fault → IsFirst file fault
  in_form : (form : SchemaForm) (fault : Fault) → file_faults file ≡ [] → IsForm file form → IsFirstOf form fault → IsFirst file fault

-- bytes are a schema, or have this first fault, as their loose reading says
abbrev pub Spells : List ℕ → Schema → Type 0
Spells bytes schema = IsSomeAnd (loosely bytes) (λ file. IsSchema file schema)

abbrev pub HasFirst : List ℕ → Fault → Type 0
HasFirst bytes fault = IsSomeAnd (loosely bytes) (λ file. IsFirst file fault)
