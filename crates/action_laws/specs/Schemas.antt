-- What a schema says of actions, by its types and by what each model has beside its properties.
use Rattle.std.specs.Prelude.{ℕ, List, map, Option}
use Rattle.std.specs.List.{find}
use Rattle.std.specs.Str.{bytes_eq}
use Rattle.snap_core.specs.declared.number.ModelNo.{ModelNo}
use Rattle.type_table.specs.Table.{Catalog}
use Rattle.type_core.specs.Sound.{IsSound}
use Rattle.model_syntax.specs.Shown.{ShownAction, ShownMiddleware, ShownBehaviour}
use Rattle.view_engine.specs.Saying.{Saying}
use Rattle.expr_core.specs.Numbers.{parts_of}
use Rattle.expr_core.specs.Plain.{HavePlainConstants, HavePlainActions}
use Rattle.expr_core.specs.Schema.{views_in}
use Rattle.schema_views.specs.Saying.{saying_by}
use Rattle.action_core.specs.Behaving.{Behaving}
use Rattle.action_laws.specs.Laws.{IsPlainBehaving}

-- the action of a name of a model, if the model has one
abbrev pub action_by : List ShownBehaviour → ModelNo → List ℕ → Option ShownAction
action_by behaviours m name = find (λ (a : ShownAction). bytes_eq name a.name) (parts_of (map (λ (b : ShownBehaviour). b.actions) behaviours) m.0)

-- the middleware of a model; none where there is no such model
abbrev pub middleware_by : List ShownBehaviour → ModelNo → List ShownMiddleware
middleware_by behaviours m = parts_of (map (λ (b : ShownBehaviour). b.middleware) behaviours) m.0

-- views are those that a request for a view asks
abbrev pub behaving_by : Catalog → List ShownBehaviour → Behaving
behaving_by types behaviours =
    let says : Saying = saying_by types (views_in behaviours) in
    record {
      types = types;
      viewing = says.viewing;
      name_of = says.name_of;
      action_of = action_by behaviours;
      middleware_of = middleware_by behaviours;
    }

-- A schema whose types have no fault, and whose views and actions have plain constants, behaves plainly.
abbrev pub SchemasBehavePlainly : Type 0
SchemasBehavePlainly =
    (types : Catalog) (behaviours : List ShownBehaviour) → IsSound types → HavePlainConstants (views_in behaviours) → HavePlainActions behaviours
    → IsPlainBehaving (behaving_by types behaviours)
