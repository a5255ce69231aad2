-- In the trace of a view that ends well, each entry is the one that its view has from nothing.
use Rattle.std.proofs.Common.{◌≡◌, ℕ, zero, suc, ◌+◌, ◌≤◌, List, [], ◌∷◌, ◌++◌, Bool, true, false, Option, Some, None, Result, Ok, Err, refl, sym, ap, ◌∙◌, subst, arith}
use Rattle.std.specs.Prelude.{IfOk, IsOk}
use Rattle.snap_core.specs.Value.{Value}
use Rattle.snap_core.specs.declared.number.NodeNo.{NodeNo}
use Rattle.pointer_core.specs.Path.{Path}
use Rattle.pointer_core.specs.declared.refusal.Rule.{Rule}
use Rattle.expr_syntax.specs.declared.number.ViewNo.{ViewNo}
use Rattle.eval_core.specs.declared.cell.Cell.{Cell}
use Rattle.eval_core.specs.declared.site.Site.{Site}
use Rattle.eval_core.specs.Answer.{Answer}
use Rattle.eval_core.specs.Sight.{Sight, Being, Held, Entry}
use Rattle.eval_core.specs.Run.{Run, Eval, Entered, Fault, lift, looks, counts, joined, ended, continued, andthen, enters}
use Rattle.eval_core.specs.Scope.{Viewing, refused_at}
use Rattle.eval_core.specs.Asking.{Asked, Stack, in_progress, site_of, first_asked, unless_cycle, unless_dead, bound_at, body_run, asked, most_views}
use Rattle.eval_core.specs.Pairing.{Pairing, InAnswer, InProp, InLevel, InFound, Anything}
use Rattle.eval_core.specs.Laws.{alone, first_entered, IsItsOwn, EachItsOwn, TracesRepeat}
use Rattle.eval_core.proofs.AnyNode.{Any, anything, any-prop, any-level, any-found}
use Rattle.eval_core.proofs.Among.{among-alone}
use Rattle.eval_core.proofs.Evaluations.{evaluating}

-- what is seen
record Seen : Type 0 where
  viewing : Viewing
  sight : Sight

each-append : (s : Seen) (xs ys : List Entered) → EachItsOwn s.viewing s.sight xs → EachItsOwn s.viewing s.sight ys → EachItsOwn s.viewing s.sight (xs ++ ys)
each-append s [] ys h k = k
each-append s (e ∷ es) ys h k = (h.0, each-append s es ys h.1 k)

-- an evaluation that ends well has entries that are their views' own; the other one is left aside
abbrev Traces : Seen → (A : Type 0) → (A → Type 0) → Eval A → Eval A → Type 0
Traces s A P e f = (before : ℕ) → IsOk (e before).outcome → EachItsOwn s.viewing s.sight (e before).entered × IfOk (e before).outcome P

lift-traces : (s : Seen) (A : Type 0) (P : A → Type 0) (outcome : Result A Fault) → IfOk outcome P → Traces s A P (lift outcome) (lift outcome)
unfolding lift
lift-traces s A P outcome fine before ok = (tt, fine)

looks-traces : (s : Seen) (A : Type 0) (P : A → Type 0) (c : Cell) (x : A) → P x → Traces s A P (looks c x) (looks c x)
unfolding looks
looks-traces s A P c x fine before ok = (tt, fine)

counts-traces : (s : Seen) (site : Site) → Traces s (Unit {0}) Anything (counts site) (counts site)
unfolding counts
counts-traces s site before ok = (tt, anything (counts site before).outcome)

continued-traces : (s : Seen) (A B : Type 0) (P : A → Type 0) (Q : B → Type 0) (run : Run A) (k : A → Run B) (o : Result A Fault) → run.outcome ≡ o
    → (IsOk run.outcome → EachItsOwn s.viewing s.sight run.entered × IfOk run.outcome P)
    → ((x : A) → P x → IsOk (k x).outcome → EachItsOwn s.viewing s.sight (k x).entered × IfOk (k x).outcome Q)
    → IsOk (continued run k o).outcome → EachItsOwn s.viewing s.sight (continued run k o).entered × IfOk (continued run k o).outcome Q
unfolding joined ended
continued-traces s A B P Q run k (Ok x) is first next ok =
    let well : IsOk run.outcome = rw is refl in
    let (each, fine) = first well in
    let Family : Result A Fault → Type 0 = λ o. IfOk o P in
    let (others, good) = next x (subst Family is fine) ok in
    (each-append s run.entered (k x).entered each others, good)
continued-traces s A B P Q run k (Err fault) is first next ok = let wrong : false ≡ true = ok in cc

thens-traces : (s : Seen) (A B : Type 0) (P : A → Type 0) (Q : B → Type 0) (e f : Eval A) (next then_next : A → Eval B)
    → Traces s A P e f → ((x : A) → P x → Traces s B Q (next x) (then_next x)) → Traces s B Q (andthen e next) (andthen f then_next)
unfolding andthen
thens-traces s A B P Q e f next then_next h k before ok =
    continued-traces s A B P Q (e before) (λ x. next x (before + (e before).own)) (e before).outcome refl (h before) (λ x good. k x good (before + (e before).own)) ok

abbrev AskTraces : Seen → (NodeNo → ViewNo → Eval Answer) → Type 0
AskTraces s ask = (n : NodeNo) (v : ViewNo) → Traces s Answer (InAnswer Any) (ask n v) (ask n v)

abbrev pairing : (s : Seen) (here : Site) (ask : NodeNo → ViewNo → Eval Answer) → AskTraces s ask → Pairing
pairing s here ask asks = record {
  viewing = s.viewing;
  left = s.sight;
  right = s.sight;
  ask_left = ask;
  ask_right = ask;
  here = here;
  Good = Any;
  Rel = Traces s;
  beings = λ n good. refl;
  lifts = lift-traces s;
  thens = thens-traces s;
  counting = counts-traces s here;
  asks = λ n v good. asks n v;
  props = λ n p good. looks-traces s (Option Held) (InProp Any) (Cell.Prop n p) (s.sight.prop n p) (any-prop (s.sight.prop n p));
  levels = λ n good. looks-traces s (List Entry) (InLevel Any) (Cell.Shape n) (s.sight.level n) (any-level (s.sight.level n));
  places = λ n good. looks-traces s Path Anything (Cell.Place n) (s.sight.place n) tt;
  wholes = λ n good. looks-traces s Value Anything (Cell.Whole n) (s.sight.whole n) tt;
  knowns = λ m i. looks-traces s (Option NodeNo) (InFound Any) (Cell.Known m i) (s.sight.known m i) (any-found (s.sight.known m i));
}

-- asking a view is the same, however many expressions were counted before
unless-before : (being : Option Being) (q : Asked) (going : Bool) (e : Eval Answer) (before : ℕ) → e before ≡ e 0
    → unless_dead being (unless_cycle q going e) before ≡ unless_dead being (unless_cycle q going e) 0
unfolding lift
unless-before None q going e before h = refl
unless-before (Some being) q true e before h = refl
unless-before (Some being) q false e before h = h

deep-before : (site : Site) (before : ℕ) → refused_at {A = Answer} site Rule.Deep before ≡ refused_at site Rule.Deep 0
unfolding lift
deep-before site before = refl

enters-before : (q : Asked) (e : Eval Answer) (before : ℕ) → enters q.node q.view e before ≡ enters q.node q.view e 0
unfolding enters
enters-before q e before = refl

asked-before : (viewing : Viewing) (sight : Sight) (room : ℕ) (stack : Stack) (q : Asked) (before : ℕ)
    → asked viewing sight room stack q.node q.view before ≡ asked viewing sight room stack q.node q.view 0
asked-before viewing sight zero stack q before =
    unless-before (sight.being q.node) q (in_progress q stack) (refused_at (site_of (first_asked stack q)) Rule.Deep) before (deep-before (site_of (first_asked stack q)) before)
asked-before viewing sight (suc room) stack q before =
    unless-before (sight.being q.node) q (in_progress q stack) (body_run viewing sight (asked viewing sight room) stack q) before (enters-before q _ before)

-- the entry of a body that is entered is its view's own, and so are those within
enters-traces : (s : Seen) (q : Asked) (e : Eval Answer) (before : ℕ) → Traces s Answer (InAnswer Any) e e → IsOk (enters q.node q.view e before).outcome
    → alone s.viewing s.sight q ≡ enters q.node q.view e before
    → EachItsOwn s.viewing s.sight (enters q.node q.view e before).entered × IfOk (enters q.node q.view e before).outcome (InAnswer Any)
unfolding enters
enters-traces s q e before h ok same =
    let (each, fine) = h 0 ok in
    let Well : Run Answer → Type 0 = λ run. IsOk run.outcome in
    let own : IsItsOwn s.viewing s.sight (record { node = q.node; view = q.view; own = (e 0).own }) =
    record { well = subst Well (sym same) ok; own = ap (λ (run : Run Answer). first_entered run.entered) same } in
    ((own, each), fine)

unless-traces : (s : Seen) (q : Asked) (being : Option Being) (going : Bool) (e : Eval Answer) (before : ℕ)
    → (IsOk (e before).outcome → alone s.viewing s.sight q ≡ e before → EachItsOwn s.viewing s.sight (e before).entered × IfOk (e before).outcome (InAnswer Any))
    → IsOk (unless_dead being (unless_cycle q going e) before).outcome → alone s.viewing s.sight q ≡ unless_dead being (unless_cycle q going e) before
    → EachItsOwn s.viewing s.sight (unless_dead being (unless_cycle q going e) before).entered
    × IfOk (unless_dead being (unless_cycle q going e) before).outcome (InAnswer Any)
unfolding lift
unless-traces s q None going e before h ok same = let wrong : false ≡ true = ok in cc
unless-traces s q (Some being) true e before h ok same = let wrong : false ≡ true = ok in cc
unless-traces s q (Some being) false e before h ok same = h ok same

deep-traces : (s : Seen) (site : Site) (before : ℕ) → IsOk (refused_at {A = Answer} site Rule.Deep before).outcome
    → EachItsOwn s.viewing s.sight (refused_at {A = Answer} site Rule.Deep before).entered × IfOk (refused_at {A = Answer} site Rule.Deep before).outcome (InAnswer Any)
unfolding lift
deep-traces s site before ok = let wrong : false ≡ true = ok in cc

-- what ends well among others ends so from nothing, whatever was counted before
alone-before : (s : Seen) (room : ℕ) (stack : Stack) (q : Asked) (before : ℕ) → room ≤ most_views
    → IsOk (asked s.viewing s.sight room stack q.node q.view before).outcome → alone s.viewing s.sight q ≡ asked s.viewing s.sight room stack q.node q.view before
alone-before s room stack q before h ok =
    let same : asked s.viewing s.sight room stack q.node q.view before ≡ asked s.viewing s.sight room stack q.node q.view 0 =
    asked-before s.viewing s.sight room stack q before in
    let Well : Run Answer → Type 0 = λ run. IsOk run.outcome in
    among-alone s.viewing s.sight q room stack h (subst Well same ok) ∙ sym same

asked-traces : (s : Seen) (room : ℕ) (stack : Stack) → room ≤ most_views → AskTraces s (asked s.viewing s.sight room stack)
asked-traces s zero stack h n v before ok =
    let q : Asked = record { node = n; view = v } in
    let same : alone s.viewing s.sight q ≡ asked s.viewing s.sight zero stack n v before = alone-before s zero stack q before h ok in
    unless-traces s q (s.sight.being n) (in_progress q stack) _ before (λ well is. deep-traces s (site_of (first_asked stack q)) before well) ok same
asked-traces s (suc room) stack h n v before ok =
    let q : Asked = record { node = n; view = v } in
    let same : alone s.viewing s.sight q ≡ asked s.viewing s.sight (suc room) stack n v before = alone-before s (suc room) stack q before h ok in
    unless-traces s q (s.sight.being n) (in_progress q stack) _ before
    (λ well is. enters-traces s q _ before
    (evaluating (pairing s (site_of q) (asked s.viewing s.sight room (stack ++ q ∷ [])) (asked-traces s room (stack ++ q ∷ []) (omega arith)))
    (s.viewing.body_of v) (bound_at s.sight n) (tt, (tt, tt))) well is) ok same

pub traces-repeat : TracesRepeat
traces-repeat viewing sight q ok =
    let s : Seen = record { viewing = viewing; sight = sight } in
    (asked-traces s most_views [] (omega arith) q.node q.view 0 ok).0
