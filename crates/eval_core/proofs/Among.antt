-- What ends well while other views are in progress, and with less room, ends so without them.
use Rattle.std.proofs.Common.{◌≡◌, ℕ, zero, suc, ◌+◌, ◌≤◌, List, [], ◌∷◌, ◌++◌, Bool, true, false, ◌||◌, Option, Some, None, Result, Ok, Err, refl, sym, ap, subst, arith, append_assoc, append-nil}
use Rattle.std.specs.Prelude.{IfOk, IsOk}
use Rattle.snap_core.specs.Value.{Value}
use Rattle.snap_core.specs.declared.number.NodeNo.{NodeNo}
use Rattle.pointer_core.specs.Path.{Path}
use Rattle.pointer_core.specs.declared.refusal.Rule.{Rule}
use Rattle.expr_syntax.specs.declared.number.ViewNo.{ViewNo}
use Rattle.eval_core.specs.declared.cell.Cell.{Cell}
use Rattle.eval_core.specs.declared.site.Site.{Site}
use Rattle.eval_core.specs.Answer.{Answer}
use Rattle.eval_core.specs.Sight.{Sight, Being, Held, Entry}
use Rattle.eval_core.specs.Run.{Run, Eval, Fault, lift, looks, counts, joined, ended, continued, andthen, enters}
use Rattle.eval_core.specs.Scope.{Viewing, Env, refused_at}
use Rattle.eval_core.specs.Evaluating.{evaluated}
use Rattle.eval_core.specs.Asking.{Asked, Stack, same_asked, in_progress, site_of, first_asked, unless_cycle, unless_dead, bound_at, body_run, asked, most_views}
use Rattle.eval_core.specs.Pairing.{Pairing, InAnswer, InProp, InLevel, InFound, Anything}
use Rattle.eval_core.specs.Laws.{AmongIsAlone}
use Rattle.eval_core.proofs.AnyNode.{Any, anything, any-prop, any-level, any-found}
use Rattle.eval_core.proofs.Evaluations.{evaluating}

-- the same run, where it ends well, and of what it gives a fact holds
abbrev pub SameWell : (A : Type 0) → (A → Type 0) → Eval A → Eval A → Type 0
SameWell A P e f = (before : ℕ) → IsOk (e before).outcome → (f before ≡ e before) × IfOk (e before).outcome P

itself : (A : Type 0) (P : A → Type 0) (e : Eval A) → ((before : ℕ) → IfOk (e before).outcome P) → SameWell A P e e
itself A P e fine before ok = (refl, fine before)

lift-well : (A : Type 0) (P : A → Type 0) (outcome : Result A Fault) → IfOk outcome P → SameWell A P (lift outcome) (lift outcome)
unfolding lift
lift-well A P outcome fine before ok = (refl, fine)

looks-well : (A : Type 0) (P : A → Type 0) (c : Cell) (x : A) → P x → SameWell A P (looks c x) (looks c x)
unfolding looks
looks-well A P c x fine before ok = (refl, fine)

continued-well : (A B : Type 0) (P : A → Type 0) (Q : B → Type 0) (run : Run A) (k l : A → Run B) (o : Result A Fault) → run.outcome ≡ o
    → IfOk o P → ((x : A) → P x → IsOk (k x).outcome → (l x ≡ k x) × IfOk (k x).outcome Q) → IsOk (continued run k o).outcome
    → (continued run l o ≡ continued run k o) × IfOk (continued run k o).outcome Q
unfolding joined ended
continued-well A B P Q run k l (Ok x) is fine h ok = let (same, good) = h x fine ok in (ap (joined run) same, good)
continued-well A B P Q run k l (Err fault) is fine h ok = (refl, tt)

-- what goes on well began well
began-well : (A B : Type 0) (run : Run A) (k : A → Run B) (o : Result A Fault) → IsOk (continued run k o).outcome → IsOk o
unfolding joined ended
began-well A B run k (Ok x) ok = refl
began-well A B run k (Err fault) ok = ok

thens-well : (A B : Type 0) (P : A → Type 0) (Q : B → Type 0) (e f : Eval A) (next then_next : A → Eval B)
    → SameWell A P e f → ((x : A) → P x → SameWell B Q (next x) (then_next x)) → SameWell B Q (andthen e next) (andthen f then_next)
unfolding andthen
thens-well A B P Q e f next then_next h k before ok =
    let run : Run A = e before in
    let (same, fine) = h before (began-well A B run (λ x. next x (before + run.own)) run.outcome ok) in
    let Family : Run A → Type 0 = λ other.
    (◌≡◌ {A = Run B} (continued other (λ x. then_next x (before + other.own)) other.outcome) (continued run (λ x. next x (before + run.own)) run.outcome))
    × IfOk (continued run (λ x. next x (before + run.own)) run.outcome).outcome Q in
    subst Family (sym same)
    (continued-well A B P Q run (λ x. next x (before + run.own)) (λ x. then_next x (before + run.own)) run.outcome refl fine (λ x good well. k x good (before + run.own) well) ok)

abbrev AskWell : (NodeNo → ViewNo → Eval Answer) → (NodeNo → ViewNo → Eval Answer) → Type 0
AskWell ask other = (n : NodeNo) (v : ViewNo) → SameWell Answer (InAnswer Any) (ask n v) (other n v)

abbrev pairing : (viewing : Viewing) (sight : Sight) (here : Site) (ask other : NodeNo → ViewNo → Eval Answer) → AskWell ask other → Pairing
pairing viewing sight here ask other asks = record {
  viewing = viewing;
  left = sight;
  right = sight;
  ask_left = ask;
  ask_right = other;
  here = here;
  Good = Any;
  Rel = SameWell;
  beings = λ n good. refl;
  lifts = lift-well;
  thens = thens-well;
  counting = itself (Unit {0}) Anything (counts here) (λ before. anything (counts here before).outcome);
  asks = λ n v good. asks n v;
  props = λ n p good. looks-well (Option Held) (InProp Any) (Cell.Prop n p) (sight.prop n p) (any-prop (sight.prop n p));
  levels = λ n good. looks-well (List Entry) (InLevel Any) (Cell.Shape n) (sight.level n) (any-level (sight.level n));
  places = λ n good. looks-well Path Anything (Cell.Place n) (sight.place n) tt;
  wholes = λ n good. looks-well Value Anything (Cell.Whole n) (sight.whole n) tt;
  knowns = λ m i. looks-well (Option NodeNo) (InFound Any) (Cell.Known m i) (sight.known m i) (any-found (sight.known m i));
}

enters-well : (q : Asked) (e f : Eval Answer) → SameWell Answer (InAnswer Any) e f → SameWell Answer (InAnswer Any) (enters q.node q.view e) (enters q.node q.view f)
unfolding enters
enters-well q e f h before ok = let (same, fine) = h 0 ok in (ap (λ (run : Run Answer). enters q.node q.view (λ _. run) before) same, fine)

refused-well : (site : Site) (rule : Rule) (f : Eval Answer) → SameWell Answer (InAnswer Any) (refused_at site rule) f
unfolding lift
refused-well site rule f before ok = let wrong : false ≡ true = ok in cc

going-fewer : (q : Asked) (xs ys : Stack) → in_progress q (xs ++ ys) ≡ false → in_progress q ys ≡ false
going-fewer q [] ys h = h
going-fewer q (x ∷ xs) ys h = by_test (same_asked q x) (going-fewer q xs ys) h
  where
    by_test : (b : Bool) → (in_progress q (xs ++ ys) ≡ false → in_progress q ys ≡ false) → (b || in_progress q (xs ++ ys)) ≡ false → in_progress q ys ≡ false
    by_test true further g = cc
    by_test false further g = further g

unless-well : (q : Asked) (being : Option Being) (far going : Bool) (e f : Eval Answer) → (far ≡ false → going ≡ false) → SameWell Answer (InAnswer Any) e f
    → SameWell Answer (InAnswer Any) (unless_dead being (unless_cycle q far e)) (unless_dead being (unless_cycle q going f))
unless-well q None far going e f apart h = refused-well Site.Frame Rule.Dead _
unless-well q (Some being) true going e f apart h = refused-well (site_of q) Rule.Cycle _
unless-well q (Some being) false true e f apart h = λ before ok. let wrong : true ≡ false = apart refl in cc
unless-well q (Some being) false false e f apart h = h

-- where there is no room, nothing ends well
never-well : (q : Asked) (being : Option Being) (far : Bool) (site : Site) (f : Eval Answer)
    → SameWell Answer (InAnswer Any) (unless_dead being (unless_cycle q far (refused_at site Rule.Deep))) f
never-well q None far site f = refused-well Site.Frame Rule.Dead f
never-well q (Some being) true site f = refused-well (site_of q) Rule.Cycle f
never-well q (Some being) false site f = refused-well site Rule.Deep f

bodies-well : (viewing : Viewing) (sight : Sight) (outer inner : Stack) (q : Asked) (ask other : Stack → NodeNo → ViewNo → Eval Answer)
    → AskWell (ask (outer ++ (inner ++ q ∷ []))) (other (inner ++ q ∷ []))
    → SameWell Answer (InAnswer Any) (body_run viewing sight ask (outer ++ inner) q) (body_run viewing sight other inner q)
bodies-well viewing sight outer inner q ask other asks =
    let bound : Env = bound_at sight q.node in
    let body : Stack → Eval Answer = λ stack. evaluated (record { viewing = viewing; sight = sight; ask = ask stack; here = site_of q }) (viewing.body_of q.view) bound in
    let Family : Stack → Type 0 = λ stack. SameWell Answer (InAnswer Any) (enters q.node q.view (body stack)) (body_run viewing sight other inner q) in
    subst Family (sym (append_assoc outer inner (q ∷ [])))
    (enters-well q _ _
    (evaluating (pairing viewing sight (site_of q) (ask (outer ++ (inner ++ q ∷ []))) (other (inner ++ q ∷ [])) asks) (viewing.body_of q.view) bound (tt, (tt, tt))))

pub asked-well : (viewing : Viewing) (sight : Sight) (outer : Stack) (room more : ℕ) (inner : Stack) → room ≤ more
    → AskWell (asked viewing sight room (outer ++ inner)) (asked viewing sight more inner)
asked-well viewing sight outer zero more inner h n v =
    let q : Asked = record { node = n; view = v } in
    never-well q (sight.being n) (in_progress q (outer ++ inner)) (site_of (first_asked (outer ++ inner) q)) (asked viewing sight more inner n v)
asked-well viewing sight outer (suc room) zero inner h n v = absurd (omega arith)
asked-well viewing sight outer (suc room) (suc more) inner h n v =
    let q : Asked = record { node = n; view = v } in
    unless-well q (sight.being n) (in_progress q (outer ++ inner)) (in_progress q inner) _ _ (going-fewer q outer inner)
    (bodies-well viewing sight outer inner q (asked viewing sight room) (asked viewing sight more) (asked-well viewing sight outer room more (inner ++ q ∷ []) (omega arith)))

pub among-alone : AmongIsAlone
among-alone viewing sight q room stack h ok =
    let Family : Stack → Type 0 = λ all. AskWell (asked viewing sight room all) (asked viewing sight most_views []) in
    let well : AskWell (asked viewing sight room stack) (asked viewing sight most_views []) =
    subst Family (append-nil stack) (asked-well viewing sight stack room most_views [] h) in
    (well q.node q.view 0 ok).0
