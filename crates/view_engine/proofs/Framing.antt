-- What is evaluated by a tree and a schema, and how it is told.
use Rattle.std.proofs.Common.{◌≡◌, ℕ, ◌+◌, ◌≤◌, [], Result, Ok, Err, refl, sym, ap, subst}
use Rattle.std.specs.Prelude.{OnOk, IsErrAnd}
use Rattle.std.specs.Borrow.{Bor}
use Rattle.pointer_core.specs.declared.refusal.Rule.{Rule}
use Rattle.expr_syntax.specs.Syntax.{Expression}
use Rattle.eval_core.specs.declared.site.Site.{Site}
use Rattle.eval_core.specs.Answer.{Answer}
use Rattle.eval_core.specs.Run as run
use Rattle.eval_core.specs.Scope.{Scope}
use Rattle.eval_core.specs.Evaluating.{evaluated}
use Rattle.answer_ops.specs.View.{answer_of}
use Rattle.answer_ops.specs.declared.value.Value.{Value}
use Rattle.view_engine.specs.declared.halt.Halt.{Halt}
use Rattle.view_engine.specs.declared.halt.RunError.{RunError}
use Rattle.view_engine.specs.declared.halt.Halt.TheVariants as halts
use Rattle.view_engine.specs.declared.names.Env.{Env}
use Rattle.view_engine.specs.declared.names.Names
use Rattle.view_engine.specs.Asks.{items_evaluated}
use Rattle.view_engine.specs.Did.{Course, course, Did}
use Rattle.view_engine.specs.Halts.{Answers, fault_of}
use Rattle.view_engine.specs.Names.{names_of, bindings_of}
use Rattle.view_engine.specs.Told.{Telling, Tells}
use Rattle.view_engine.proofs.Bindings.{names-Listed}

-- an expression in a frame
pub framed-did : (s frame : Scope) (e : Expression) (env : Bor Env) (r : Result Value Halt) (way : Course) → s ≡ frame
    → Did answer_of r (evaluated s e (names_of (Names.Listed env))) way → Did answer_of r (evaluated frame e (bindings_of env.now.bindings)) way
framed-did s frame e env r way same did =
    subst (λ names. Did answer_of r (evaluated frame e names) way) (names-Listed env)
    (subst (λ x. Did answer_of r (evaluated x e (names_of (Names.Listed env))) way) same did)

pub framed-items : (s frame : Scope) (e : Expression) (env : Bor Env) (r : Result Value Halt) (way : Course) → s ≡ frame
    → Did answer_of r (items_evaluated s e (names_of (Names.Listed env))) way → Did answer_of r (items_evaluated frame e (bindings_of env.now.bindings)) way
framed-items s frame e env r way same did =
    subst (λ names. Did answer_of r (items_evaluated frame e names) way) (names-Listed env)
    (subst (λ x. Did answer_of r (items_evaluated x e (names_of (Names.Listed env))) way) same did)

-- what is told as an answer was one
pub counted-told : (t : Telling) (given : Result Value Halt) (value : Value) (Counts : Type 0)
    → ((outcome : Result Answer run.Fault) → Answers answer_of given outcome → Tells t (Ok value) outcome) → OnOk given Counts → Counts
counted-told t (Ok x) value Counts told h = h
counted-told t (Err halts.Memory) value Counts told h =
    let fault : run.Fault = record { rule = Rule.Dead; site = Site.Frame } in
    let never : Err fault ≡ Ok (answer_of value) = told (Err fault) tt in
    absurd cc
counted-told t (Err (halts.Refused fault)) value Counts told h =
    let never : Err (fault_of fault) ≡ Ok (answer_of value) = told (Err (fault_of fault)) refl in
    absurd cc

-- an error is handed on
pub tells-handed : (t : Telling) (e : RunError) (r : Result Value RunError) (outcome : Result Answer run.Fault) → IsErrAnd r (λ x. x ≡ e) → Tells t (Err e) outcome → Tells t r outcome
tells-handed t e (Ok x) outcome is tells = absurd is
tells-handed t e (Err other) outcome is tells = subst (λ (x : RunError). Tells t (Err x) outcome) (sym is) tells
