-- What a form has to be so that its types can be put together.
use Rattle.std.specs.Prelude.{ℕ, ◌<◌, List, length, All}
use Rattle.schema_form.specs.declared.form.Entry.{Entry}
use Rattle.schema_form.specs.declared.form.ModelForm.{ModelForm}
use Rattle.schema_form.specs.declared.form.Kind.{Kind}
use Rattle.schema_form.specs.declared.form.Kind.TheVariants.{Word, Reference, SafeReference}
use Rattle.schema_form.specs.declared.form.Word.TheVariants.{Named}
use Rattle.type_table.specs.Table.{Plan, AreNamed, AreTyped, IsShapeOf, plan_of}
use Rattle.schema_read.specs.Types.{kind_shape, put_together}

-- the entry that an expression names is one of so many
abbrev pub NamesEntry : ℕ → Kind → Type 0
NamesEntry count (Word (Named e)) = e.0 < count
NamesEntry count (Reference e) = e.0 < count
NamesEntry count (SafeReference e) = e.0 < count
NamesEntry count _ = Unit {0}

-- an expression stands for a shape of the plan
pub record IsKindOf (entries : List Entry) (plan : Plan) (kind : Kind) : Type 0 where
  pub entry : NamesEntry (length entries) kind
  pub shape : IsShapeOf plan (kind_shape entries kind)

-- the properties of a model stand in order, and their types are among the first so many
pub record IsFit (count : ℕ) (model : ModelForm) : Type 0 where
  pub named : AreNamed model.properties
  pub typed : AreTyped count model.properties

-- the expressions and the models stand for shapes and models of the plan that they are put into
pub record AreWhole (entries : List Entry) (kinds : List Kind) (models : List ModelForm) : Type 0 where
  pub shapes : All (IsKindOf entries (plan_of (put_together entries kinds models))) kinds
  pub known : All (IsFit (length kinds)) models
