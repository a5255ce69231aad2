-- What the parts of a model say, one after another in document order.
use Rattle.std.specs.Prelude.{ℕ, List, [], ◌∷◌, ◌++◌, length, codes, Option, Some, None, if◌then◌else◌}
use Rattle.std.specs.Str.{bytes_eq}
use Rattle.snap_core.specs.Value.{Value, no_parts, part, no_members, member, value_at, Items, Fields}
use Rattle.snap_core.specs.declared.number.ModelNo.{ModelNo}
use Rattle.type_table.specs.declared.shape.Property.{Property}
use Rattle.expr_syntax.specs.Syntax.{Statements, done}
use Rattle.model_syntax.specs.declared.behaviour.Param.{Param}
use Rattle.model_syntax.specs.Shown.{ShownView, ShownAction, ShownMiddleware}
use Rattle.expr_form.specs.Outcome.{Outcome, astray, reads, under}
use Rattle.behaviour_form.specs.Named.{is_taken}
use Rattle.behaviour_form.specs.Actions.{action_body_read}
use Rattle.behaviour_form.specs.Middleware.{middleware_read}
use Rattle.behaviour_form.specs.Views.{views_read}
use Rattle.schema_form.specs.declared.form.Astray.{Astray}
use Rattle.schema_form.specs.declared.form.Expression.{Expression}
use Rattle.schema_form.specs.declared.form.Place.TheVariants as place
use Rattle.schema_form.specs.Entries.{entries, items, param_in}
use Rattle.schema_form.specs.Targets.{lookup}
use Rattle.schema_form.specs.Layout.{type_no, type_laid, properties_laid, properties_of}

-- the parameters of an action so far, and all type expressions so far
pub record Params : Type 0 where
  pub expressions : List Expression
  pub params : List Param

-- with a parameter more of the action of a model and an index; what hasn't the form of one adds nothing
abbrev pub with_typed : Fields → ModelNo × ℕ → Params → Option (List ℕ × Value) → Params
with_typed types action s (Some p) =
    let n = length s.expressions in record {
      expressions = s.expressions ++ type_laid types p.1 n (place.Param action.0 action.1 (length s.params));
      params = s.params ++ record { name = p.0; of = type_no n } ∷ [];
    }
with_typed types action s None = s

abbrev pub with_param : Fields → ModelNo × ℕ → Params → Value → Params
with_param types action s v = with_typed types action s (param_in v)

abbrev pub with_params : Fields → ModelNo × ℕ → Params → Items → Params
with_params types action s no_parts = s
with_params types action s (part v ps) = with_params types action (with_param types action s v) ps

-- what a part of a model goes by: the types, all parts of the model, and its number
pub record Within : Type 0 where
  pub types : Fields
  pub parts : Fields
  pub model : ModelNo

-- an action so far, and all type expressions so far
pub record Acting : Type 0 where
  pub expressions : List Expression
  pub params : List Param
  pub body : Outcome Statements

-- with a part more of the action of an index, of which all parts are given
abbrev pub with_body : Acting → Outcome Statements → Acting
with_body s o = record s { body = o }

abbrev pub with_list : Fields → ModelNo × ℕ → Acting → Items → Acting
with_list types action s ps =
    let read = with_params types action (record { expressions = s.expressions; params = [] }) ps in record s {
      expressions = read.expressions;
      params = read.params;
    }

-- the parts of an action, and the types that its names lead to: it is known by its model and its index
pub record Action : Type 0 where
  pub types : Fields
  pub parts : Fields
  pub number : ModelNo × ℕ

abbrev pub with_action_part : Action → Acting → List ℕ → Value → Acting
with_action_part a s k v =
    if bytes_eq k (codes "body") then with_body s (action_body_read (lookup a.types) (value_at (codes "params") a.parts) v)
    else if bytes_eq k (codes "params") then with_list a.types a.number s (items v)
    else s

abbrev pub with_action_parts : Action → Acting → Fields → Acting
with_action_parts a s no_members = s
with_action_parts a s (member k v ms) = with_action_parts a (with_action_part a s k v) ms

-- before all parts of an action
abbrev pub idle : List Expression → Acting
idle expressions = record { expressions = expressions; params = []; body = reads done }

-- what is read of something, unless it has a fault or goes astray
abbrev pub read_or : {A : Type 0} → A → Outcome A → A
read_or other (reads a) = a
read_or other _ = other

-- the first of two expressions that go astray
abbrev pub earlier : Option Astray → Option Astray → Option Astray
earlier (Some first) second = Some first
earlier None second = second

-- where something goes astray, if it does: so many type expressions stand before it, in this model
abbrev pub astray_at : {A : Type 0} → ModelNo → ℕ → Outcome A → Option Astray
astray_at model n (astray path) = Some (record { before = type_no n; model = model; path = path })
astray_at model n _ = None

-- a model so far, and all type expressions so far
pub record Modelled : Type 0 where
  pub expressions : List Expression
  pub properties : List Property
  pub views : List ShownView
  pub actions : List ShownAction
  pub middleware : List ShownMiddleware
  pub astray : Option Astray

-- with an action more
abbrev pub with_acting : Within → Modelled → List ℕ → Acting → Modelled
with_acting w s k read = record s {
  expressions = read.expressions;
  actions = s.actions ++ record { name = k; params = read.params; body = read_or done read.body } ∷ [];
  astray = earlier s.astray (astray_at w.model (length s.expressions) (under (codes "actions") (under k (under (codes "body") read.body))));
}

abbrev pub with_action : Within → Modelled → List ℕ → Value → Modelled
with_action w s k v =
    let a : Action = record { types = w.types; parts = entries v; number = (w.model, length s.actions) } in
    with_acting w s k (with_action_parts a (idle s.expressions) (entries v))

abbrev pub with_actions : Within → Modelled → Fields → Modelled
with_actions w s no_members = s
with_actions w s (member k v ms) = with_actions w (with_action w s k v) ms

-- with its middleware, its properties, its views
abbrev pub with_middleware : Within → Modelled → Outcome (List ShownMiddleware) → Modelled
with_middleware w s o = record s {
  middleware = read_or s.middleware o;
  astray = earlier s.astray (astray_at w.model (length s.expressions) (under (codes "middleware") o));
}

abbrev pub with_properties : Within → Modelled → Fields → Modelled
with_properties w s ps = record s {
  expressions = s.expressions ++ properties_laid w.types w.model 0 ps (length s.expressions);
  properties = properties_of w.types w.model 0 ps (length s.expressions);
}

abbrev pub with_views : Within → Modelled → Outcome (List ShownView) → Modelled
with_views w s o = record s {
  views = read_or s.views o;
  astray = earlier s.astray (astray_at w.model (length s.expressions) (under (codes "views") o));
}

-- with a part more
abbrev pub with_part : Within → Modelled → List ℕ → Value → Modelled
with_part w s k v =
    if bytes_eq k (codes "actions") then with_actions w s (entries v)
    else if bytes_eq k (codes "middleware") then with_middleware w s (middleware_read (lookup w.types) v)
    else if bytes_eq k (codes "properties") then with_properties w s (entries v)
    else if bytes_eq k (codes "views") then with_views w s (views_read (lookup w.types) (is_taken w.parts) v)
    else s

abbrev pub with_parts : Within → Modelled → Fields → Modelled
with_parts w s no_members = s
with_parts w s (member k v ms) = with_parts w (with_part w s k v) ms

-- before all parts of a model
abbrev pub unsaid : List Expression → Modelled
unsaid expressions = record { expressions = expressions; properties = []; views = []; actions = []; middleware = []; astray = None }
