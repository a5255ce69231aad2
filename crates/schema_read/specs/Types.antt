-- Which types the form of a schema file stands for: one for each type expression, under its number, and then one for each model, which is that model.
use Rattle.std.specs.Prelude.{ℕ, ◌+◌, List, [], ◌∷◌, ◌++◌, length, map, slice_get, slice_index, Option, Some, None}
use Rattle.snap_core.specs.declared.number.TypeNo.{TypeNo}
use Rattle.snap_core.specs.declared.number.ModelNo.{ModelNo}
use Rattle.type_table.specs.declared.shape.Shape.{Shape}
use Rattle.type_table.specs.declared.shape.Shape.TheVariants as shape
use Rattle.type_table.specs.declared.shape.ModelType.{ModelType}
use Rattle.type_table.specs.Table.{Table}
use Rattle.schema_form.specs.declared.form.SchemaForm.{SchemaForm}
use Rattle.schema_form.specs.declared.form.Entry.{Entry}
use Rattle.schema_form.specs.declared.form.EntryNo.{EntryNo}
use Rattle.schema_form.specs.declared.form.Expression.{Expression}
use Rattle.schema_form.specs.declared.form.ModelForm.{ModelForm}
use Rattle.schema_form.specs.declared.form.Word.{Word}
use Rattle.schema_form.specs.declared.form.Word.TheVariants as word
use Rattle.schema_form.specs.declared.form.Plain.{Plain}
use Rattle.schema_form.specs.declared.form.Plain.TheVariants.{Text, Integer, Boolean, Null, Frozen, Identifier, IdentifierNumber}
use Rattle.schema_form.specs.declared.form.Holder.{Holder}
use Rattle.schema_form.specs.declared.form.Holder.TheVariants.{Maybe, MaybeNull, Array, Map}
use Rattle.schema_form.specs.declared.form.Kind.{Kind}
use Rattle.schema_form.specs.declared.form.Kind.TheVariants as kind

-- the type of an entry
abbrev pub type_of : List Entry → EntryNo → TypeNo
type_of entries e = record { 0 = slice_index (map (λ (one : Entry). one.of.0) entries) e.0 }

-- what a plain type is
abbrev pub plain_shape : Plain → Shape
plain_shape Text = shape.Str
plain_shape Integer = shape.Integer
plain_shape Boolean = shape.Boolean
plain_shape Null = shape.Null
plain_shape Frozen = shape.Frozen
plain_shape Identifier = shape.Identifier
plain_shape IdentifierNumber = shape.IdentifierNumber

-- what holds one type
abbrev pub holder_shape : Holder → TypeNo → Shape
holder_shape Maybe u = shape.Maybe u
holder_shape MaybeNull u = shape.MaybeNull u
holder_shape Array u = shape.Array u
holder_shape Map u = shape.Map u

-- what a text stands for: a plain type, or the type of the entry that it names
abbrev pub word_shape : List Entry → Word → Shape
word_shape entries (word.Plain plain) = plain_shape plain
word_shape entries (word.Named e) = shape.Named (type_of entries e)

-- what a type expression stands for; a reference leads to the type of the entry that it names
abbrev pub kind_shape : List Entry → Kind → Shape
kind_shape entries (kind.Word w) = word_shape entries w
kind_shape entries (kind.Literal l) = shape.Literal l
kind_shape entries (kind.Enumeration texts) = shape.Enumeration texts
kind_shape entries (kind.Optional u d) = shape.Optional u d
kind_shape entries (kind.Holder holder u) = holder_shape holder u
kind_shape entries (kind.Union us) = shape.Union us
kind_shape entries (kind.Refinement u conditions) = shape.Refinement u conditions
kind_shape entries (kind.Reference e) = shape.Reference (type_of entries e)
kind_shape entries (kind.SafeReference e) = shape.Safe (type_of entries e)
kind_shape entries (kind.Model m) = shape.Model m

-- models, whose own types are numbered from here on
abbrev pub models_from : ℕ → List ModelForm → List ModelType
models_from own [] = []
models_from own (m ∷ ms) = record { name = m.name; properties = m.properties; own = record { 0 = own } } ∷ models_from (own + 1) ms

-- the models' own types, the first of which is the model of this number
abbrev pub own_shapes : ℕ → List ModelForm → List Shape
own_shapes m [] = []
own_shapes m (_ ∷ models) = shape.Model (record { 0 = m }) ∷ own_shapes (m + 1) models

-- what type expressions say
abbrev pub kinds_of : List Expression → List Kind
kinds_of expressions = map (λ e. e.kind) expressions

-- the types of entries, expressions and models
abbrev pub put_together : List Entry → List Kind → List ModelForm → Table
put_together entries kinds models = record {
  shapes = map (kind_shape entries) kinds ++ own_shapes 0 models;
  models = models_from (length kinds) models;
}

abbrev pub table_of : SchemaForm → Table
table_of form = put_together form.entries (kinds_of form.expressions) form.models

-- the model that an expression is
abbrev pub as_model : Option Kind → Option ModelNo
as_model (Some (kind.Model m)) = Some m
as_model _ = None

-- the model that an entry is; none where it is only a name of one
abbrev pub model_of : List Entry → List Kind → EntryNo → Option ModelNo
model_of entries kinds e = as_model (slice_get kinds (type_of entries e).0)

-- the model that documents are of
abbrev pub root_of : SchemaForm → Option ModelNo
root_of form = model_of form.entries (kinds_of form.expressions) form.root
