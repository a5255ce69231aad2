-- What a walk over the parts of a model has found so far.
use Rattle.std.specs.Prelude.{List, map}
use Rattle.expr_syntax.specs.ShownStatements.{block_shown}
use Rattle.model_syntax.specs.Shown.{view_shown, action_shown, middleware_shown}
use Rattle.schema_form.specs.declared.form.Expression.{Expression}
use Rattle.schema_form.specs.declared.actions.Acting as code
use Rattle.schema_form.specs.declared.models.Modelling.{Modelling}
use Rattle.schema_form.specs.Told.{outcome_of}
use Rattle.schema_form.specs.Modelled.{Acting, Modelled}

-- an action
abbrev pub acting : List Expression → code.Acting → Acting
acting expressions a = record { expressions = expressions; params = a.params; body = outcome_of block_shown a.body }

-- a model
abbrev pub so_far : List Expression → Modelling → Modelled
so_far expressions m = record {
  expressions = expressions;
  properties = m.properties;
  views = map view_shown m.behaviour.views;
  actions = map action_shown m.behaviour.actions;
  middleware = map middleware_shown m.behaviour.middleware;
  astray = m.astray;
}
