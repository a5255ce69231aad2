-- What a schema says of its views, as evaluating asks for it.
use Rattle.std.specs.Prelude.{ℕ, List, length, slice_get, is_some, option_map, unwrap_or, Option, Some, if◌then◌else◌}
use Rattle.snap_core.specs.Value.{null}
use Rattle.snap_core.specs.declared.number.ModelNo.{ModelNo}
use Rattle.expr_syntax.specs.declared.number.ViewNo.{ViewNo}
use Rattle.expr_syntax.specs.Syntax.{Expression, constant}
use Rattle.model_syntax.specs.Shown.{ShownView}
use Rattle.type_table.specs.Table.{Table, Catalog, properties_of}
use Rattle.type_table.specs.Unions.{property_at}
use Rattle.eval_core.specs.Scope.{Member, property, view}
use Rattle.expr_core.specs.Numbers.{joined}
use Rattle.expr_core.specs.Schema.{Schema, views_of, numbered_view}
use Rattle.view_engine.specs.Saying.{Saying}

-- a name in a model is its property, or otherwise its view of that name
abbrev pub member_by : Table → List (List ShownView) → ModelNo → List ℕ → Option Member
member_by table views m name =
    if is_some (property_at name (properties_of table m.0)) then Some property else option_map view (numbered_view views m name)

-- the view of a number, if there is one
abbrev pub numbered : List (List ShownView) → ViewNo → Option ShownView
numbered views v = slice_get (joined views) v.0

-- the body of a view; null where there is no such view
abbrev pub body_by : List (List ShownView) → ViewNo → Expression
body_by views v = unwrap_or (option_map (λ w. w.body) (numbered views v)) (constant null)

-- by the types, and the views of each model
abbrev pub saying_by : Catalog → List (List ShownView) → Saying
saying_by types views = record {
  catalog = types;
  viewing = record { member_of = member_by types.table views; body_of = body_by views };
  name_of = λ v. option_map (λ w. w.name) (numbered views v);
  view_count = length (joined views);
}

abbrev pub saying : Schema → Saying
saying schema = saying_by schema.types (views_of schema)
