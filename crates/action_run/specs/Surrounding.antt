-- What passing the middleware around an action comes to.
use Rattle.std.specs.Prelude.{ℕ, List, Bool, false, not, ◌&&◌, is_err, Result, Ok, Err, if◌then◌else◌}
use Rattle.pointer_core.specs.Path.{Path}
use Rattle.snap_core.specs.declared.number.NodeNo.{NodeNo}
use Rattle.expr_syntax.specs.Syntax.{Expression}
use Rattle.view_engine.specs.declared.halt.RunError.{RunError}
use Rattle.view_engine.specs.declared.halt.RunError.TheVariants.{Refused}
use Rattle.action_core.specs.Act.{Act, ◌>>=◌}
use Rattle.action_core.specs.Behaving.{Acting, Behaving, Running}
use Rattle.action_core.specs.Calling.{guards, if_admitted, called}
use Rattle.action_core.specs.Running.{is_budget}
use Rattle.action_steps.specs.Doing.{Point, Performs, back_at}

abbrev pub Done : Type 0
Done = Result (Unit {0}) RunError

-- another block is run where this came of a first one: a refusal, unless it is that the request ran too many statements
abbrev pub is_rescued : Done → Bool
is_rescued (Err (Refused r)) = not (is_budget r.rule)
is_rescued result = false

-- where a call that came to a point leaves a request: where it is all or nothing and ended with an error, with the tree as it was
abbrev pub left_at : Bool → Done → Point → Point → Point
left_at is_atomic result a c = if is_atomic && is_err result then back_at a c else c

-- what is inside does what is outside as well
abbrev pub Continues : (is_atomic : Bool) (outer inner : Act (Unit {0})) (a b : Point) → Type 0
Continues is_atomic outer inner a b =
    (result : Done) (c : Point) → Performs (λ u. u) result inner b c → Performs (λ u. u) result outer a (left_at is_atomic result b c)

-- the middleware is passed, one of it being atomic or none; or it ends the action
abbrev pub Passes : Result Bool RunError → Act (Unit {0}) → Act (Unit {0}) → Point → Point → Type 0
Passes (Ok is_atomic) outer inner a b = Continues is_atomic outer inner a b
Passes (Err e) outer inner a b = Performs {T = Unit {0}} (λ u. u) (Err e) outer a b

abbrev pub guarded : Behaving → Path → NodeNo → Expression → Act (Unit {0}) → Act (Unit {0})
guarded behaving frame n condition inner = do
  admitted ← guards behaving frame n condition
  if_admitted frame inner admitted

-- a condition holds, and what it guards goes on; or it ends the action
abbrev pub Admits : Done → Behaving → Path → NodeNo → Expression → Act (Unit {0}) → Point → Point → Type 0
Admits (Ok u) behaving frame n condition inner a b = Continues false (guarded behaving frame n condition inner) inner a b
Admits (Err e) behaving frame n condition inner a b = Performs {T = Unit {0}} (λ u. u) (Err e) (guarded behaving frame n condition inner) a b

-- by what the statements of an action run that is one more of those that run
abbrev pub running_by : Behaving → ℕ → List NodeNo → Path → Acting
running_by behaving room nodes frame =
    let running : Running = record { nodes = nodes; frame = frame } in
    record { behaving = behaving; running = running; call = called behaving room running }
