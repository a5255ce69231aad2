-- How a call relates to the write that it does, and what it names.
use Rattle.std.specs.Prelude.{◌≡◌, ℕ, Result, Err}
use Rattle.pointer_core.specs.Path.{Path}
use Rattle.type_core.specs.Making.{Outcome}
use Rattle.type_core.specs.Made.{refused_as}
use Rattle.tree_core.specs.declared.error.TreeError.{TreeError}
use Rattle.tree_core.specs.declared.error.TreeError.TheVariants as errors
use Rattle.tree_core.specs.Changed.{Changed}
use Rattle.tree_core.specs.Recorded.{tree_in}
use Rattle.tree_core.specs.State.{State}
use Rattle.tree_core.specs.Writing.{Tree}
use Rattle.answer_writing.specs.View.{giving_of}
use Rattle.view_engine.specs.declared.halt.RunError.{RunError}
use Rattle.view_engine.specs.declared.halt.RunError.TheVariants.{Memory, Refused}
use Rattle.action_core.specs.Behaving.{path_in_frame, in_frame, writes}
use Rattle.action_core.specs.Statements as core
use Rattle.action_steps.specs.Doing.{IsRefusal, Performs, point}
use Rattle.action_steps.specs.declared.naming.Naming.{Naming}

-- a write as a statement names it
abbrev pub naming_of : Naming → core.Naming
naming_of w = record { node = w.node; tokens = w.tokens; place = w.place; giving = giving_of w.giving }

-- an error of the tree, told in a frame
abbrev pub IsToldIn : Path → TreeError → RunError → Type 0
IsToldIn frame (errors.Refused r) error = IsRefusal error (path_in_frame frame r.rule r.path) r.rule
IsToldIn frame errors.Memory error = error ≡ Memory

-- an error is what an outcome is refused for, told in a frame; or want of memory
abbrev pub RefusesIn : {A : Type 0} → Path → RunError → Outcome A → Type 0
RefusesIn frame (Refused r) outcome = in_frame frame outcome ≡ Err (refused_as r)
RefusesIn frame Memory outcome = Unit {0}

-- The result and the state behind it are those of a write in a frame, by what the write comes to in the state before it.
abbrev pub Writes : Result (Unit {0}) RunError → Path → Outcome Changed → State → State → Type 0
Writes result frame outcome before after =
    (change : Tree → Outcome Changed) (counted steps : ℕ) → change (tree_in before) ≡ outcome
    → Performs (λ x. x) result (writes frame change) (point before counted steps) (point after counted steps)
