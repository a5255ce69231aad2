-- What contracts see of a model's views, actions and middleware.
use Rattle.std.specs.Prelude.{ℕ, List, map}
use Rattle.snap_core.specs.Value.{AreAscending}
use Rattle.expr_syntax.specs.Syntax.{Expression, Statements}
use Rattle.expr_syntax.specs.Shown.{shown}
use Rattle.expr_syntax.specs.ShownStatements.{block_shown}
use Rattle.model_syntax.specs.declared.behaviour.View.{View}
use Rattle.model_syntax.specs.declared.behaviour.Param.{Param}
use Rattle.model_syntax.specs.declared.behaviour.Action.{Action}
use Rattle.model_syntax.specs.declared.behaviour.Surrounded.{Surrounded}
use Rattle.model_syntax.specs.declared.behaviour.Middleware.{Middleware}
use Rattle.model_syntax.specs.declared.behaviour.Middleware.TheVariants.{Atomic, Protect}
use Rattle.model_syntax.specs.declared.behaviour.Behaviour.{Behaviour}

-- a view: its name, and the expression that it answers
pub record ShownView : Type 0 where
  pub name : List ℕ
  pub body : Expression

-- an action: its name, its parameters, and the statements that it runs
pub record ShownAction : Type 0 where
  pub name : List ℕ
  pub params : List Param
  pub body : Statements

-- a middleware: it takes back what actions wrote, or guards them by a condition
pub data ShownMiddleware : Type 0 where
  atomic : Surrounded → ShownMiddleware
  protect : Surrounded → Expression → ShownMiddleware

-- what a model has beside its properties
pub record ShownBehaviour : Type 0 where
  pub views : List ShownView
  pub actions : List ShownAction
  pub middleware : List ShownMiddleware

abbrev pub view_shown : View → ShownView
view_shown v = record { name = v.name; body = shown v.body }

abbrev pub action_shown : Action → ShownAction
action_shown a = record { name = a.name; params = a.params; body = block_shown a.body }

abbrev pub middleware_shown : Middleware → ShownMiddleware
middleware_shown (Atomic around) = atomic around
middleware_shown (Protect around condition) = protect around (shown condition)

abbrev pub behaviour_shown : Behaviour → ShownBehaviour
behaviour_shown b = record { views = map view_shown b.views; actions = map action_shown b.actions; middleware = map middleware_shown b.middleware }

-- the names of views ascend, and those of actions
pub record IsInOrder (b : ShownBehaviour) : Type 0 where
  pub views : AreAscending (map (λ v. v.name) b.views)
  pub actions : AreAscending (map (λ a. a.name) b.actions)
