-- What a name leads to: a value that is there, or a view that is asked.
use Rattle.std.specs.Prelude.{◌≡◌, ℕ, suc, List, Result, Ok, Err}
use Rattle.answer_ops.specs.View.{answer_of}
use Rattle.eval_core.specs.Answer.{Answer}
use Rattle.snap_core.specs.declared.number.NodeNo.{NodeNo}
use Rattle.expr_syntax.specs.declared.number.ViewNo.{ViewNo}
use Rattle.answer_ops.specs.declared.value.Value.{Value}
use Rattle.eval_core.specs.Run.{Eval}
use Rattle.eval_core.specs.Scope as core
use Rattle.eval_core.specs.Scope.{gives}
use Rattle.eval_core.specs.Asking.{Asked, asked, body_run}
use Rattle.view_engine.specs.declared.halt.Halt.{Halt}
use Rattle.view_engine.specs.declared.member.Got.{Got}
use Rattle.view_engine.specs.declared.member.Got.TheVariants as got
use Rattle.view_engine.specs.declared.scope.Scope.{Scope}
use Rattle.view_engine.specs.Saying.{Saying, IsView}
use Rattle.view_engine.specs.Progress.{standing_of, sight_in, scope_of}
use Rattle.view_engine.specs.Did.{Read}

-- a view that a name leads to is one of the schema's
abbrev pub IsKnown : Saying → Got → Type 0
IsKnown says (got.Value x) = Unit {0}
IsKnown says (got.View n v) = IsView says v

abbrev pub reached : core.Scope → Got → Eval Answer
reached s (got.Value x) = gives (answer_of x)
reached s (got.View n v) = s.ask n v

-- What a look-up leads to: a value was read, or a view is to be asked, and nothing else.
abbrev pub Finds : core.Scope → Result Got Halt → Eval Answer → Type 0
Finds s (Ok (got.Value x)) eval = Read answer_of (Ok x) eval
Finds s (Ok (got.View n v)) eval = (before : ℕ) → eval before ≡ s.ask n v before
Finds s (Err halt) eval = Read {T = Value} answer_of (Err halt) eval

-- A view of a node is admitted, with room for so many more behind it, where its body is evaluated.
abbrev pub Admits : {S : Type 0} → (S → Saying) → Scope S → Asked → Result ℕ Halt → Type 0
Admits says s q (Ok room) =
    (s.room ≡ suc room)
    × ((before : ℕ) → (scope_of says s).ask q.node q.view before
    ≡ body_run (says s.schema.now).viewing (sight_in says s) (asked (says s.schema.now).viewing (sight_in says s) room) (standing_of s.going).stack q before)
Admits says s q (Err halt) = Read {T = Value} answer_of (Err halt) ((scope_of says s).ask q.node q.view)
