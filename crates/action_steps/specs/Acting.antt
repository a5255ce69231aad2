-- By what the statements of an action run, as calls are given it.
use Rattle.std.specs.Prelude.{◌≡◌, Result, Ok, Err}
use Rattle.type_core.specs.Making.{Outcome}
use Rattle.type_core.specs.Made.{refused_as}
use Rattle.expr_syntax.specs.ShownStatements.{block_shown}
use Rattle.model_syntax.specs.Shown.{middleware_shown}
use Rattle.view_engine.specs.declared.halt.RunError.{RunError}
use Rattle.view_engine.specs.declared.halt.RunError.TheVariants.{Memory, Refused}
use Rattle.action_core.specs.Beginning as begun
use Rattle.action_core.specs.Layers as layers
use Rattle.action_steps.specs.declared.beginning.Begun.{Begun}
use Rattle.action_steps.specs.declared.beginning.Callee.{Callee}
use Rattle.action_steps.specs.declared.layers.Layer.{Layer}
use Rattle.expr_core.specs.Schema.{Schema, behaviours_shown}
use Rattle.answer_ops.specs.View.{answers_of}
use Rattle.eval_core.specs.Scope.{Env}
use Rattle.view_engine.specs.Names.{bindings_of}
use Rattle.view_engine.specs.declared.names.Env.{Env as Bound}
use Rattle.action_core.specs.Behaving as core
use Rattle.action_core.specs.Calling.{called}
use Rattle.action_laws.specs.Schemas.{behaving_by}
use Rattle.action_steps.specs.declared.acting.Acting.{Acting}

-- what a schema says of actions
abbrev pub behaving_of : Schema → core.Behaving
behaving_of s = behaving_by s.types (behaviours_shown s)

-- the actions that run, the latest first, and the frame of the latest
abbrev pub running_of : Acting → core.Running
running_of a = record { nodes = a.running.now; frame = a.frame.now }

-- with room for so many more actions
abbrev pub acting_of : Acting → core.Acting
acting_of a = record {
  behaving = behaving_of a.schema.now;
  running = running_of a;
  call = called (behaving_of a.schema.now) a.room (running_of a);
}

-- the names that are bound
abbrev pub env_of : Bound → Env
env_of env = bindings_of env.bindings

-- an action that is called
abbrev pub callee_of : Callee → core.Callee
callee_of c = record { node = c.node; name = c.name.now; given = answers_of c.args.now }

-- an action that begins
abbrev pub begun_of : Begun → begun.Begun
begun_of b = record { frame = b.frame; body = block_shown b.body.now; env = env_of b.env }

-- the answer is what the outcome says, unless memory ran out
abbrev pub Begins : Result Begun RunError → Outcome begun.Begun → Type 0
Begins (Ok b) outcome = outcome ≡ Ok (begun_of b)
Begins (Err (Refused r)) outcome = outcome ≡ Err (refused_as r)
Begins (Err Memory) outcome = Unit {0}

-- a middleware, and the node that it was declared for
abbrev pub layer_of : Layer → layers.Layer
layer_of l = record { node = l.node; middleware = middleware_shown l.middleware.now }
