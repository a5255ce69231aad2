-- No body counts more expressions than it may, and no more views are in progress than may be.
use Rattle.std.proofs.Common.{◌≡◌, ℕ, zero, suc, ◌+◌, ◌≤◌, List, [], ◌∷◌, ◌++◌, Bool, true, false, Option, Some, None, Result, Ok, Err, if◌then◌else◌, refl, arith}
use Rattle.std.specs.Prelude.{IfOk, nat_lt}
use Rattle.std.proofs.lemmas.Bool.Decides.{nat_tests}
use Rattle.snap_core.specs.Value.{Value}
use Rattle.snap_core.specs.declared.number.NodeNo.{NodeNo}
use Rattle.pointer_core.specs.Path.{Path}
use Rattle.pointer_core.specs.declared.refusal.Rule.{Rule}
use Rattle.expr_syntax.specs.declared.number.ViewNo.{ViewNo}
use Rattle.eval_core.specs.declared.cell.Cell.{Cell}
use Rattle.eval_core.specs.declared.site.Site.{Site}
use Rattle.eval_core.specs.Answer.{Answer}
use Rattle.eval_core.specs.Sight.{Sight, Being, Held, Entry}
use Rattle.eval_core.specs.Run.{Run, Eval, Entered, Fault, lift, looks, counts, most_expressions, joined, ended, continued, andthen, enters}
use Rattle.eval_core.specs.Scope.{Viewing, refused_at}
use Rattle.eval_core.specs.Asking.{Asked, Stack, in_progress, site_of, first_asked, unless_cycle, unless_dead, bound_at, asked, most_views, view_run}
use Rattle.eval_core.specs.Pairing.{Pairing, InAnswer, InProp, InLevel, InFound, Anything}
use Rattle.eval_core.specs.Laws.{EachWithin, IsWithin, RunsStayWithin}
use Rattle.eval_core.proofs.AnyNode.{Any, anything, any-prop, any-level, any-found, any-env}
use Rattle.eval_core.proofs.Evaluations.{evaluating}

each-append : (xs ys : List Entered) → EachWithin xs → EachWithin ys → EachWithin (xs ++ ys)
each-append [] ys h k = k
each-append (e ∷ es) ys h k = (h.0, each-append es ys h.1 k)

-- an evaluation stays within, whatever came before, and of what it gives a fact holds; the other one is left aside
abbrev Stays : ℕ → (A : Type 0) → (A → Type 0) → Eval A → Eval A → Type 0
Stays room A P e f = (before : ℕ) → IsWithin room before (e before) × IfOk (e before).outcome P

still : {A : Type 0} (room before : ℕ) (run : Run A) → run.own ≡ 0 → run.height ≡ 0 → run.entered ≡ [] → IsWithin room before run
still room before run own high none = record { counted = λ h. omega arith; high = omega arith; each = rw none tt }

lift-stays : (room : ℕ) (A : Type 0) (P : A → Type 0) (outcome : Result A Fault) → IfOk outcome P → Stays room A P (lift outcome) (lift outcome)
unfolding lift
lift-stays room A P outcome fine before = (still room before (lift outcome before) refl refl refl, fine)

looks-stays : (room : ℕ) (A : Type 0) (P : A → Type 0) (c : Cell) (x : A) → P x → Stays room A P (looks c x) (looks c x)
unfolding looks
looks-stays room A P c x fine before = (still room before (looks c x before) refl refl refl, fine)

counts-stays : (room : ℕ) (site : Site) → Stays room (Unit {0}) Anything (counts site) (counts site)
unfolding counts
counts-stays room site before =
    (record { counted = by_test (nat_lt before most_expressions) refl; high = omega arith; each = tt }, anything (counts site before).outcome)
  where
    by_test : (b : Bool) → nat_lt before most_expressions ≡ b → before ≤ most_expressions → before + (if b then 1 else 0) ≤ most_expressions
    by_test true e h = grind (arith, nat_tests)
    by_test false e h = omega arith

continued-stays : (room : ℕ) (A B : Type 0) (P : A → Type 0) (Q : B → Type 0) (next then_next : A → Eval B) (before : ℕ) (run : Run A) (o : Result A Fault)
    → IsWithin room before run → IfOk o P → ((x : A) → P x → Stays room B Q (next x) (then_next x))
    → IsWithin room before (continued run (λ x. next x (before + run.own)) o) × IfOk (continued run (λ x. next x (before + run.own)) o).outcome Q
unfolding joined ended
continued-stays room A B P Q next then_next before run (Ok x) first fine k =
    let second : Run B = next x (before + run.own) in
    let (after, good) = k x fine (before + run.own) in (
      record {
        counted = λ h. let one : before + run.own ≤ most_expressions = first.counted h in let two : before + run.own + second.own ≤ most_expressions = after.counted one in omega arith;
        high = let one : run.height ≤ room = first.high in let two : second.height ≤ room = after.high in omega arith;
        each = each-append run.entered second.entered first.each after.each;
      },
      good,
    )
continued-stays room A B P Q next then_next before run (Err fault) first fine k = (record { counted = first.counted; high = first.high; each = first.each }, tt)

thens-stays : (room : ℕ) (A B : Type 0) (P : A → Type 0) (Q : B → Type 0) (e f : Eval A) (next then_next : A → Eval B)
    → Stays room A P e f → ((x : A) → P x → Stays room B Q (next x) (then_next x)) → Stays room B Q (andthen e next) (andthen f then_next)
unfolding andthen
thens-stays room A B P Q e f next then_next h k before =
    let (first, fine) = h before in continued-stays room A B P Q next then_next before (e before) (e before).outcome first fine k

abbrev AskStays : ℕ → (NodeNo → ViewNo → Eval Answer) → Type 0
AskStays room ask = (n : NodeNo) (v : ViewNo) → Stays room Answer (InAnswer Any) (ask n v) (ask n v)

abbrev pairing : (viewing : Viewing) (sight : Sight) (here : Site) (room : ℕ) (ask : NodeNo → ViewNo → Eval Answer) → AskStays room ask → Pairing
pairing viewing sight here room ask asks = record {
  viewing = viewing;
  left = sight;
  right = sight;
  ask_left = ask;
  ask_right = ask;
  here = here;
  Good = Any;
  Rel = Stays room;
  beings = λ n good. refl;
  lifts = lift-stays room;
  thens = thens-stays room;
  counting = counts-stays room here;
  asks = λ n v good. asks n v;
  props = λ n p good. looks-stays room (Option Held) (InProp Any) (Cell.Prop n p) (sight.prop n p) (any-prop (sight.prop n p));
  levels = λ n good. looks-stays room (List Entry) (InLevel Any) (Cell.Shape n) (sight.level n) (any-level (sight.level n));
  places = λ n good. looks-stays room Path Anything (Cell.Place n) (sight.place n) tt;
  wholes = λ n good. looks-stays room Value Anything (Cell.Whole n) (sight.whole n) tt;
  knowns = λ m i. looks-stays room (Option NodeNo) (InFound Any) (Cell.Known m i) (sight.known m i) (any-found (sight.known m i));
}

abbrev Stay : ℕ → Eval Answer → Type 0
Stay room e = Stays room Answer (InAnswer Any) e e

refused-stays : (room : ℕ) (site : Site) (rule : Rule) → Stay room (refused_at site rule)
refused-stays room site rule = lift-stays room Answer (InAnswer Any) (Err (record { rule = rule; site = site })) tt

unless-stays : (room : ℕ) (q : Asked) (being : Option Being) (going : Bool) (e : Eval Answer) → Stay room e → Stay room (unless_dead being (unless_cycle q going e))
unless-stays room q None going e h = refused-stays room Site.Frame Rule.Dead
unless-stays room q (Some being) true e h = refused-stays room (site_of q) Rule.Cycle
unless-stays room q (Some being) false e h = h

-- a body begins to count at 0
enters-stays : (room : ℕ) (q : Asked) (e : Eval Answer) → Stay room e → Stay (suc room) (enters q.node q.view e)
unfolding enters
enters-stays room q e h before =
    let (body, fine) = h 0 in
    let own : (e 0).own ≤ most_expressions = let sum : 0 + (e 0).own ≤ most_expressions = body.counted (omega arith) in omega arith in
    let high : (e 0).height ≤ room = body.high in
    (record { counted = λ k. omega arith; high = omega arith; each = (own, body.each) }, fine)

pub asked-stays : (viewing : Viewing) (sight : Sight) (room : ℕ) (stack : Stack) → AskStays room (asked viewing sight room stack)
asked-stays viewing sight zero stack n v =
    let q : Asked = record { node = n; view = v } in
    unless-stays 0 q (sight.being n) (in_progress q stack) _ (refused-stays 0 (site_of (first_asked stack q)) Rule.Deep)
asked-stays viewing sight (suc room) stack n v =
    let q : Asked = record { node = n; view = v } in
    unless-stays (suc room) q (sight.being n) (in_progress q stack) _
    (enters-stays room q _
    (evaluating (pairing viewing sight (site_of q) room (asked viewing sight room (stack ++ q ∷ [])) (asked-stays viewing sight room (stack ++ q ∷ [])))
    (viewing.body_of v) (bound_at sight n) (tt, (tt, tt))))

pub stay-within : (viewing : Viewing) (sight : Sight) → RunsStayWithin viewing sight
stay-within viewing sight = record {
  views = λ room stack n v before. (asked-stays viewing sight room stack n v before).0;
  expressions = λ e env before.
      (evaluating (pairing viewing sight Site.Frame most_views (view_run viewing sight) (asked-stays viewing sight most_views [])) e env (any-env env) before).0;
}
