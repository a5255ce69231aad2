-- Calling an action: what it is refused for before it begins, the middleware around it, and its statements.
use Rattle.std.specs.Prelude.{ℕ, zero, suc, List, [], ◌∷◌, Bool, Ok, if◌then◌else◌}
use Rattle.snap_core.specs.declared.number.NodeNo.{NodeNo}
use Rattle.pointer_core.specs.Path.{Path}
use Rattle.pointer_core.specs.declared.refusal.Rule.TheVariants as rule
use Rattle.expr_syntax.specs.Syntax.{Expression}
use Rattle.model_syntax.specs.Shown.{ShownMiddleware, atomic, protect}
use Rattle.eval_core.specs.Asking.{bound_at}
use Rattle.eval_core.specs.Run.{andthen}
use Rattle.eval_core.specs.Evaluating.{evaluated, truth}
use Rattle.action_core.specs.Act.{Act, ◌>>=◌, refuses, looks, all_or_nothing}
use Rattle.action_core.specs.Behaving.{Behaving, Running, Callee, evaluates}
use Rattle.action_core.specs.Layers.{Layer, layers_of}
use Rattle.action_core.specs.Beginning.{Begun, begun_by}
use Rattle.action_core.specs.Running.{ran_block}

-- Middleware.

-- a condition of a node, in the frame of the action that it guards
abbrev pub guards : Behaving → Path → NodeNo → Expression → Act Bool
guards behaving frame n condition = evaluates behaving frame (λ s. andthen (evaluated s condition (bound_at s.sight n)) (truth s))

-- what is guarded, where the condition holds
abbrev pub if_admitted : Path → Act (Unit {0}) → Bool → Act (Unit {0})
if_admitted frame inner admitted = if admitted then inner else refuses frame rule.Guarded

-- one middleware around what it surrounds
abbrev pub around : Behaving → Path → NodeNo → ShownMiddleware → Act (Unit {0}) → Act (Unit {0})
around behaving frame n (atomic which) inner = all_or_nothing inner
around behaving frame n (protect which condition) inner = do
  admitted ← guards behaving frame n condition
  if_admitted frame inner admitted

-- the first surrounds the second, and so on; the body is innermost
abbrev pub surrounded : Behaving → Path → List Layer → Act (Unit {0}) → Act (Unit {0})
surrounded behaving frame [] body = body
surrounded behaving frame (layer ∷ layers) body =
    around behaving frame layer.node layer.middleware (surrounded behaving frame layers body)

-- Calls.

-- how actions are called, of actions that are running
abbrev pub Calling : Type 0
Calling = Running → Callee → Act (Unit {0})

-- the actions that run while the body of one more does
abbrev pub running_on : Running → NodeNo → Path → Running
running_on running n frame = record { nodes = n ∷ running.nodes; frame = frame }

-- the statements of an action
abbrev pub body_run : Behaving → Calling → Running → NodeNo → Begun → Act (Unit {0})
body_run behaving calling running n begun =
    let within : Running = running_on running n begun.frame in
    ran_block (record { behaving = behaving; running = within; call = calling within }) begun.body begun.env

-- An action is called, with room for so many more actions. What it is refused for by itself comes before the want of
-- room, and that before its middleware.
abbrev pub called : Behaving → ℕ → Calling
called behaving zero running callee = do
  begun ← looks (begun_by behaving running.frame callee)
  refuses begun.frame rule.Calls
called behaving (suc room) running callee = do
  begun ← looks (begun_by behaving running.frame callee)
  layers ← looks (λ root. Ok (layers_of behaving callee root))
  surrounded behaving begun.frame layers (body_run behaving (called behaving room) running callee.node begun)

-- how many actions may run at once
abbrev pub most_actions : ℕ
most_actions = 32

-- an action that a request calls
abbrev pub acted : Behaving → Callee → Act (Unit {0})
acted behaving callee = called behaving most_actions (record { nodes = []; frame = [] }) callee
