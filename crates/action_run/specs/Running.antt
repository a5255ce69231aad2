-- What running an action comes to, as its call tells it.
use Rattle.std.specs.Prelude.{◌≡◌, ℕ, ◌+◌, ◌≤◌, Result, Ok, Err}
use Rattle.type_core.specs.Made.{refused_as}
use Rattle.tree_core.specs.State.{State as Tree}
use Rattle.view_engine.specs.declared.halt.RunError.{RunError}
use Rattle.view_engine.specs.declared.halt.RunError.TheVariants.{Memory, Refused}
use Rattle.action_core.specs.Act.{Ran}
use Rattle.action_steps.specs.Doing.{spent}

-- the action ended well or is refused as the run is, and left the run's tree; want of memory tells nothing
abbrev pub Runs : Result (Unit {0}) RunError → Ran (Unit {0}) → Tree → Type 0
Runs (Ok done) ran now = (ran.outcome ≡ Ok tt) × (ran.state.tree ≡ now)
Runs (Err (Refused r)) ran now = (ran.outcome ≡ Err (refused_as r)) × (ran.state.tree ≡ now)
Runs (Err Memory) ran now = Unit {0}

-- no more steps were taken than the expressions that were met cost
abbrev pub Costs : Result (Unit {0}) RunError → Ran (Unit {0}) → ℕ → ℕ → Type 0
Costs (Err Memory) ran before after = Unit {0}
Costs result ran before after = after ≤ before + spent ran.state.met
