-- The view of a name of the model node at a place.
use Rattle.std.specs.Prelude.{ℕ, List, option_map, Option, Some, None}
use Rattle.snap_core.specs.declared.number.NodeNo.{NodeNo}
use Rattle.type_table.specs.Table.{Catalog}
use Rattle.model_syntax.specs.Shown.{ShownView}
use Rattle.edit_core.specs.declared.kind.Kind.{Kind}
use Rattle.edit_core.specs.declared.kind.Kind.TheVariants.{Model}
use Rattle.edit_core.specs.Labelled.{Labelled}
use Rattle.tree_core.specs.declared.place.Place.{Place}
use Rattle.tree_core.specs.Reading.{kind_at}
use Rattle.tree_reading.specs.declared.held.Held.{Held}
use Rattle.tree_reading.specs.declared.held.Held.TheVariants.{Node}
use Rattle.tree_reading.specs.Held.{held_at}
use Rattle.eval_core.specs.Asking.{Asked}
use Rattle.expr_core.specs.Schema.{numbered_view}
use Rattle.schema_views.specs.declared.locate.ViewOf.{ViewOf}

-- a view of a node of a kind: models alone have views
abbrev pub view_of_kind : List (List ShownView) → List ℕ → NodeNo → Option Kind → Option Asked
view_of_kind views name n (Some (Model m)) = option_map (λ v. record { node = n; view = v }) (numbered_view views m name)
view_of_kind views name n kind = None

-- of what a place holds: nodes alone have views, and a reference isn't followed
abbrev pub view_of_held : List (List ShownView) → List ℕ → Labelled → Option Held → Option Asked
view_of_held views name root (Some (Node n)) = view_of_kind views name n (kind_at n.0 root)
view_of_held views name root held = None

abbrev pub view_there : Catalog → List (List ShownView) → List ℕ → Place → Labelled → Option Asked
view_there types views name place root = view_of_held views name root (held_at types.table place root)

-- a view of a node, as evaluating knows it
abbrev pub asked_of : ViewOf → Asked
asked_of of = record { node = of.node; view = of.view }
