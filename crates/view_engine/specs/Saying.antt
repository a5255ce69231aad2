-- What a schema says of its views, as evaluating asks for it.
use Rattle.std.specs.Prelude.{ℕ, List, ◌<◌, Option}
use Rattle.type_table.specs.Table.{Catalog}
use Rattle.expr_syntax.specs.declared.number.ViewNo.{ViewNo}
use Rattle.eval_core.specs.Scope.{Member, property, view, Viewing}
use Rattle.view_engine.specs.declared.schema.Named.{Named}
use Rattle.view_engine.specs.declared.schema.Named.TheVariants.{Property, View}

-- the types, what names are in models, the bodies of views and their names, and how many views there are
pub record Saying : Type 0 where
  pub catalog : Catalog
  pub viewing : Viewing
  pub name_of : ViewNo → Option (List ℕ)
  pub view_count : ℕ

-- a number is one of the schema's views
abbrev pub IsView : Saying → ViewNo → Type 0
IsView says v = v.0 < says.view_count

abbrev pub member_of : Named → Member
member_of Property = property
member_of (View v) = view v

-- a name that is a view is one of the schema's
abbrev pub IsNamed : Saying → Named → Type 0
IsNamed says Property = Unit {0}
IsNamed says (View v) = IsView says v
