-- What a relation keeps step by step: outcomes, choices, and what is done with a live node.
use Rattle.std.proofs.Common.{Bool, true, false, Option, Some, None, Result, Ok, Err, if◌then◌else◌, subst}
use Rattle.std.specs.Prelude.{IfOk}
use Rattle.snap_core.specs.declared.number.NodeNo.{NodeNo}
use Rattle.pointer_core.specs.declared.refusal.Rule.{Rule}
use Rattle.edit_core.specs.declared.kind.Kind.{Kind}
use Rattle.eval_core.specs.declared.site.Site.{Site}
use Rattle.eval_core.specs.Answer.{Answer}
use Rattle.eval_core.specs.Sight.{Being}
use Rattle.eval_core.specs.Run.{Eval, andthen}
use Rattle.eval_core.specs.Scope.{gives, refused_at, judged}
use Rattle.eval_core.specs.Reading.{of_kind}
use Rattle.eval_core.specs.Pairing.{Pairing, left_scope, right_scope, InAnswer}

-- two evaluations of an answer are related, and the nodes in it are good
abbrev pub ArePaired : (p : Pairing) → Eval Answer → Eval Answer → Type 0
ArePaired p e f = p.Rel Answer (InAnswer p.Good) e f

pub given : (p : Pairing) (A : Type 0) (P : A → Type 0) (x : A) → P x → p.Rel A P (gives x) (gives x)
given p A P x h = p.lifts A P (Ok x) h

pub refusing : (p : Pairing) (A : Type 0) (P : A → Type 0) (site : Site) (rule : Rule) → p.Rel A P (refused_at site rule) (refused_at site rule)
refusing p A P site rule = p.lifts A P (Err (record { rule = rule; site = site })) tt

pub judging : (p : Pairing) (A : Type 0) (P : A → Type 0) (outcome : Result A Rule) → IfOk outcome P
    → p.Rel A P (judged (left_scope p) outcome) (judged (right_scope p) outcome)
judging p A P (Ok x) h = p.lifts A P (Ok x) h
judging p A P (Err rule) h = refusing p A P p.here rule

pub choosing : (p : Pairing) (A : Type 0) (P : A → Type 0) (b : Bool) (e f then_e then_f : Eval A) → p.Rel A P e then_e → p.Rel A P f then_f
    → p.Rel A P (if b then e else f) (if b then then_e else then_f)
choosing p A P true e f then_e then_f h k = h
choosing p A P false e f then_e then_f h k = k

-- one evaluation and then another, of answers
pub going_on : (p : Pairing) (e f : Eval Answer) (next then_next : Answer → Eval Answer)
    → ArePaired p e f → ((x : Answer) → InAnswer p.Good x → ArePaired p (next x) (then_next x)) → ArePaired p (andthen e next) (andthen f then_next)
going_on p e f next then_next h k = p.thens Answer Answer (InAnswer p.Good) (InAnswer p.Good) e f next then_next h k

by_being : (p : Pairing) (A : Type 0) (P : A → Type 0) (being : Option Being) (u v : Kind → Eval A)
    → ((kind : Kind) → p.Rel A P (u kind) (v kind)) → p.Rel A P (of_kind (left_scope p) being u) (of_kind (right_scope p) being v)
by_being p A P None u v h = refusing p A P p.here _
by_being p A P (Some being) u v h = h being.kind

pub kinds : (p : Pairing) (A : Type 0) (P : A → Type 0) (n : NodeNo) (u v : Kind → Eval A) → p.Good n
    → ((kind : Kind) → p.Rel A P (u kind) (v kind)) → p.Rel A P (of_kind (left_scope p) (p.left.being n) u) (of_kind (right_scope p) (p.right.being n) v)
kinds p A P n u v good h =
    let Family : Option Being → Type 0 = λ being. p.Rel A P (of_kind (left_scope p) (p.left.being n) u) (of_kind (right_scope p) being v) in
    subst Family (p.beings n good) (by_being p A P (p.left.being n) u v h)
