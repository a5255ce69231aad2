-- What evaluating gives where it ends well, step by step.
use Rattle.std.proofs.Common.{ℕ, ◌+◌, Bool, true, false, Option, Some, None, Result, Ok, Err, if◌then◌else◌}
use Rattle.std.specs.Prelude.{IfOk}
use Rattle.snap_core.specs.declared.number.NodeNo.{NodeNo}
use Rattle.pointer_core.specs.declared.refusal.Rule.{Rule}
use Rattle.edit_core.specs.declared.kind.Kind.{Kind}
use Rattle.expr_syntax.specs.declared.number.ViewNo.{ViewNo}
use Rattle.eval_core.specs.declared.cell.Cell.{Cell}
use Rattle.eval_core.specs.declared.site.Site.{Site}
use Rattle.eval_core.specs.Sight.{Being}
use Rattle.eval_core.specs.Run.{Run, Eval, Fault, lift, looks, joined, ended, continued, andthen, enters}
use Rattle.eval_core.specs.Scope.{Scope, gives, refused_at, refused, judged}
use Rattle.eval_core.specs.Reading.{of_kind}

-- whatever came before: where it ends well, a fact holds of what it gives
abbrev pub Gives : {A : Type 0} → (A → Type 0) → Eval A → Type 0
Gives P e = (before : ℕ) → IfOk (e before).outcome P

abbrev Anything : {A : Type 0} → A → Type 0
Anything x = Unit {0}

pub lifting : {A : Type 0} (P : A → Type 0) (outcome : Result A Fault) → IfOk outcome P → Gives P (lift outcome)
unfolding lift
lifting P outcome h before = h

pub given : {A : Type 0} (P : A → Type 0) (x : A) → P x → Gives P (gives x)
given P x h = lifting P (Ok x) h

pub refusing_at : {A : Type 0} (P : A → Type 0) (site : Site) (rule : Rule) → Gives P (refused_at site rule)
refusing_at P site rule = lifting P (Err (record { rule = rule; site = site })) tt

pub judging : {A : Type 0} (P : A → Type 0) (s : Scope) (outcome : Result A Rule) → IfOk outcome P → Gives P (judged s outcome)
judging P s (Ok x) h = given P x h
judging P s (Err rule) h = refusing_at P s.here rule

pub refusing : {A : Type 0} (P : A → Type 0) (s : Scope) (rule : Rule) → Gives P (refused s rule)
refusing P s rule = refusing_at P s.here rule

pub looking : {A : Type 0} (P : A → Type 0) (c : Cell) (x : A) → P x → Gives P (looks c x)
unfolding looks
looking P c x h before = h

continuing : {A B : Type 0} (P : A → Type 0) (Q : B → Type 0) (run : Run A) (next : A → Run B) (o : Result A Fault)
    → IfOk o P → ((x : A) → P x → IfOk (next x).outcome Q) → IfOk (continued run next o).outcome Q
unfolding joined ended
continuing P Q run next (Ok x) h k = k x h
continuing P Q run next (Err fault) h k = tt

pub going_on : {A B : Type 0} (P : A → Type 0) (Q : B → Type 0) (e : Eval A) (next : A → Eval B)
    → Gives P e → ((x : A) → P x → Gives Q (next x)) → Gives Q (andthen e next)
unfolding andthen
going_on P Q e next h k before =
    continuing P Q (e before) (λ x. next x (before + (e before).own)) (e before).outcome (h before) (λ x p. k x p (before + (e before).own))

-- nothing need be known of what comes first
anyhow : {A : Type 0} (e : Eval A) → Gives Anything e
anyhow e before = by_outcome (e before).outcome
  where
    by_outcome : {A : Type 0} (o : Result A Fault) → IfOk o Anything
    by_outcome (Ok x) = tt
    by_outcome (Err fault) = tt

pub after : {A B : Type 0} (Q : B → Type 0) (e : Eval A) (next : A → Eval B) → ((x : A) → Gives Q (next x)) → Gives Q (andthen e next)
after Q e next k = going_on Anything Q e next (anyhow e) (λ x any. k x)

pub entering : {A : Type 0} (P : A → Type 0) (n : NodeNo) (v : ViewNo) (e : Eval A) → Gives P e → Gives P (enters n v e)
unfolding enters
entering P n v e h before = h 0

pub choosing : {A : Type 0} (P : A → Type 0) (b : Bool) (e f : Eval A) → Gives P e → Gives P f → Gives P (if b then e else f)
choosing P true e f h k = h
choosing P false e f h k = k

-- of a live node, by its kind
pub by_kind : {A : Type 0} (P : A → Type 0) (s : Scope) (being : Option Being) (use_kind : Kind → Eval A)
    → ((kind : Kind) → Gives P (use_kind kind)) → Gives P (of_kind s being use_kind)
by_kind P s None use_kind h = refusing P s Rule.Dead
by_kind P s (Some being) use_kind h = h being.kind
