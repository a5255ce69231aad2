-- A view that ends well from nothing, asked while others are in progress.
use Rattle.std.proofs.Common.{◌≡◌, ℕ, zero, suc, ◌+◌, ◌<◌, ◌≤◌, max, ◌⊎◌, inl, inr, List, [], ◌∷◌, ◌++◌, Bool, true, false, ◌||◌, Option, Some, None, Result, Ok, Err, refl, sym, ap, ◌∙◌, subst, arith, append_assoc, append-nil}
use Rattle.std.specs.Prelude.{IfOk, IsOk}
use Rattle.snap_core.specs.Value.{Value}
use Rattle.snap_core.specs.declared.number.NodeNo.{NodeNo}
use Rattle.pointer_core.specs.Path.{Path}
use Rattle.pointer_core.specs.declared.refusal.Rule.{Rule}
use Rattle.expr_syntax.specs.declared.number.ViewNo.{ViewNo}
use Rattle.eval_core.specs.declared.cell.Cell.{Cell}
use Rattle.eval_core.specs.declared.site.Site.{Site}
use Rattle.eval_core.specs.Answer.{Answer}
use Rattle.eval_core.specs.Sight.{Sight, Being, Held, Entry}
use Rattle.eval_core.specs.Run.{Run, Eval, Entered, Fault, lift, looks, counts, joined, ended, continued, andthen, enters}
use Rattle.eval_core.specs.Scope.{Viewing, Env, refused_at}
use Rattle.eval_core.specs.Evaluating.{evaluated}
use Rattle.eval_core.specs.Asking.{Asked, Stack, same_asked, in_progress, site_of, first_asked, unless_cycle, unless_dead, bound_at, body_run, asked, most_views}
use Rattle.eval_core.specs.Pairing.{Pairing, InAnswer, InProp, InLevel, InFound, Anything}
use Rattle.eval_core.specs.Laws.{NoneGoing, alone, among, stack_of, HeightTellsDeep}
use Rattle.eval_core.proofs.AnyNode.{Any, anything, any-prop, any-level, any-found, in_any}
use Rattle.eval_core.proofs.Evaluations.{evaluating}

-- What a run tells of another one that has room for so many more views: the same where its height has room, else refused.
pub record Tells {A : Type 0} (room : ℕ) (fault : Fault) (P : A → Type 0) (run other : Run A) : Type 0 where
  pub fits : run.height ≤ room → other ≡ run
  pub deep : room < run.height → other.outcome ≡ Err fault
  pub good : IfOk run.outcome P

-- the views in progress, and the refusal where too many would be
pub record Outer : Type 0 where
  pub first : Asked
  pub others : Stack

abbrev stack_in : Outer → Stack
stack_in outer = outer.first ∷ outer.others

abbrev too_deep : Outer → Fault
too_deep outer = record { rule = Rule.Deep; site = site_of outer.first }

abbrev Told : Outer → ℕ → (A : Type 0) → (A → Type 0) → Eval A → Eval A → Type 0
Told outer room A P e f = (before : ℕ) → IsOk (e before).outcome → NoneGoing (stack_in outer) (e before).entered → Tells room (too_deep outer) P (e before) (f before)

none-front : (stack : Stack) (xs ys : List Entered) → NoneGoing stack (xs ++ ys) → NoneGoing stack xs
none-front stack [] ys h = tt
none-front stack (e ∷ es) ys h = (h.0, none-front stack es ys h.1)

none-back : (stack : Stack) (xs ys : List Entered) → NoneGoing stack (xs ++ ys) → NoneGoing stack ys
none-back stack [] ys h = h
none-back stack (e ∷ es) ys h = none-back stack es ys h.1

-- a run of height 0 tells that the other one is the same
flat : {A : Type 0} (room : ℕ) (fault : Fault) (P : A → Type 0) (run : Run A) → run.height ≡ 0 → IfOk run.outcome P → Tells room fault P run run
flat room fault P run low fine = record { fits = λ h. refl; deep = λ h. absurd (omega arith); good = fine }

lift-told : (outer : Outer) (room : ℕ) (A : Type 0) (P : A → Type 0) (outcome : Result A Fault) → IfOk outcome P → Told outer room A P (lift outcome) (lift outcome)
unfolding lift
lift-told outer room A P outcome fine before ok none = flat room (too_deep outer) P (lift outcome before) refl fine

looks-told : (outer : Outer) (room : ℕ) (A : Type 0) (P : A → Type 0) (c : Cell) (x : A) → P x → Told outer room A P (looks c x) (looks c x)
unfolding looks
looks-told outer room A P c x fine before ok none = flat room (too_deep outer) P (looks c x before) refl fine

counts-told : (outer : Outer) (room : ℕ) (site : Site) → Told outer room (Unit {0}) Anything (counts site) (counts site)
unfolding counts
counts-told outer room site before ok none = flat room (too_deep outer) Anything (counts site before) refl (anything (counts site before).outcome)

low_or_high : (m n : ℕ) → (m ≤ n) ⊎ (n < m)
low_or_high m n = grind arith

-- what goes on after a run that is the same, and after one that is refused
after-same : (A B : Type 0) (next : A → Eval B) (before : ℕ) (run other : Run A) (x : A) → other ≡ run → run.outcome ≡ Ok x
    → continued other (λ y. next y (before + other.own)) other.outcome ≡ joined run (next x (before + run.own))
after-same A B next before run other x same fine =
    ap (λ (r : Run A). continued r (λ y. next y (before + r.own)) r.outcome) same ∙ ap (λ o. continued run (λ y. next y (before + run.own)) o) fine

after-refused : (A B : Type 0) (next : A → Eval B) (before : ℕ) (other : Run A) (fault : Fault) → other.outcome ≡ Err fault
    → (continued other (λ y. next y (before + other.own)) other.outcome).outcome ≡ Err fault
unfolding ended
after-refused A B next before other fault h = ap (λ o. (continued other (λ y. next y (before + other.own)) o).outcome) h

joined-told : (outer : Outer) (room : ℕ) (A B : Type 0) (P : A → Type 0) (Q : B → Type 0) (then_next : A → Eval B) (before : ℕ) (run other : Run A) (x : A) (second : Run B)
    → Tells room (too_deep outer) P run other → run.outcome ≡ Ok x → Tells room (too_deep outer) Q second (then_next x (before + run.own))
    → Tells room (too_deep outer) Q (joined run second) (continued other (λ y. then_next y (before + other.own)) other.outcome)
unfolding joined
joined-told outer room A B P Q then_next before run other x second first fine next = record {
  fits = λ h.
      let one : run.height ≤ room = omega arith in
      let two : second.height ≤ room = omega arith in
      after-same A B then_next before run other x (first.fits one) fine ∙ ap (joined run) (next.fits two);
  deep = λ h. by_height h (low_or_high run.height room);
  good = next.good;
}
  where
    by_height : room < max run.height second.height → (run.height ≤ room) ⊎ (room < run.height)
        → (continued other (λ y. then_next y (before + other.own)) other.outcome).outcome ≡ Err (too_deep outer)
    by_height h (inl one) =
        let two : room < second.height = omega arith in
        ap (λ (r : Run B). r.outcome) (after-same A B then_next before run other x (first.fits one) fine) ∙ next.deep two
    by_height h (inr one) = after-refused A B then_next before other (too_deep outer) (first.deep one)

continued-told : (outer : Outer) (room : ℕ) (A B : Type 0) (P : A → Type 0) (Q : B → Type 0) (next then_next : A → Eval B) (before : ℕ) (run other : Run A) (o : Result A Fault)
    → run.outcome ≡ o → (IsOk run.outcome → NoneGoing (stack_in outer) run.entered → Tells room (too_deep outer) P run other)
    → ((x : A) → P x → Told outer room B Q (next x) (then_next x))
    → IsOk (continued run (λ x. next x (before + run.own)) o).outcome → NoneGoing (stack_in outer) (continued run (λ x. next x (before + run.own)) o).entered
    → Tells room (too_deep outer) Q (continued run (λ x. next x (before + run.own)) o) (continued other (λ x. then_next x (before + other.own)) other.outcome)
unfolding joined ended
continued-told outer room A B P Q next then_next before run other (Ok x) is first k ok none =
    let second : Run B = next x (before + run.own) in
    let well : IsOk run.outcome = rw is refl in
    let told : Tells room (too_deep outer) P run other = first well (none-front (stack_in outer) run.entered second.entered none) in
    let Family : Result A Fault → Type 0 = λ o. IfOk o P in
    let fine : P x = subst Family is told.good in
    joined-told outer room A B P Q then_next before run other x second told is
    (k x fine (before + run.own) ok (none-back (stack_in outer) run.entered second.entered none))
continued-told outer room A B P Q next then_next before run other (Err fault) is first k ok none = cc

thens-told : (outer : Outer) (room : ℕ) (A B : Type 0) (P : A → Type 0) (Q : B → Type 0) (e f : Eval A) (next then_next : A → Eval B)
    → Told outer room A P e f → ((x : A) → P x → Told outer room B Q (next x) (then_next x)) → Told outer room B Q (andthen e next) (andthen f then_next)
unfolding andthen
thens-told outer room A B P Q e f next then_next h k before ok none =
    continued-told outer room A B P Q next then_next before (e before) (f before) (e before).outcome refl (h before) k ok none

abbrev AskTold : Outer → ℕ → (NodeNo → ViewNo → Eval Answer) → (NodeNo → ViewNo → Eval Answer) → Type 0
AskTold outer room ask other = (n : NodeNo) (v : ViewNo) → Told outer room Answer (InAnswer Any) (ask n v) (other n v)

abbrev pairing : (viewing : Viewing) (sight : Sight) (here : Site) (outer : Outer) (room : ℕ) (ask other : NodeNo → ViewNo → Eval Answer) → AskTold outer room ask other → Pairing
pairing viewing sight here outer room ask other asks = record {
  viewing = viewing;
  left = sight;
  right = sight;
  ask_left = ask;
  ask_right = other;
  here = here;
  Good = Any;
  Rel = Told outer room;
  beings = λ n good. refl;
  lifts = lift-told outer room;
  thens = thens-told outer room;
  counting = counts-told outer room here;
  asks = λ n v good. asks n v;
  props = λ n p good. looks-told outer room (Option Held) (InProp Any) (Cell.Prop n p) (sight.prop n p) (any-prop (sight.prop n p));
  levels = λ n good. looks-told outer room (List Entry) (InLevel Any) (Cell.Shape n) (sight.level n) (any-level (sight.level n));
  places = λ n good. looks-told outer room Path Anything (Cell.Place n) (sight.place n) tt;
  wholes = λ n good. looks-told outer room Value Anything (Cell.Whole n) (sight.whole n) tt;
  knowns = λ m i. looks-told outer room (Option NodeNo) (InFound Any) (Cell.Known m i) (sight.known m i) (any-found (sight.known m i));
}

-- a body that is entered: its view comes first among those entered, and its height is one more
enters-told : (outer : Outer) (room : ℕ) (q : Asked) (e f : Eval Answer) → Told outer room Answer (InAnswer Any) e f
    → (before : ℕ) → IsOk (enters q.node q.view e before).outcome → NoneGoing (stack_in outer) (enters q.node q.view e before).entered
    → Tells (suc room) (too_deep outer) (InAnswer Any) (enters q.node q.view e before) (enters q.node q.view f before)
unfolding enters
enters-told outer room q e f h before ok none =
    let told : Tells room (too_deep outer) (InAnswer Any) (e 0) (f 0) = h 0 ok none.1 in
    record {
      fits = λ low. let small : (e 0).height ≤ room = omega arith in ap (λ (run : Run Answer). enters q.node q.view (λ _. run) before) (told.fits small);
      deep = λ high. told.deep (omega arith);
      good = told.good;
    }

going-append : (q : Asked) (xs ys : Stack) → in_progress q xs ≡ false → in_progress q ys ≡ false → in_progress q (xs ++ ys) ≡ false
going-append q [] ys h k = k
going-append q (x ∷ xs) ys h k = by_test (same_asked q x) (λ g. going-append q xs ys g k) h
  where
    by_test : (b : Bool) → (in_progress q xs ≡ false → in_progress q (xs ++ ys) ≡ false) → (b || in_progress q xs) ≡ false → (b || in_progress q (xs ++ ys)) ≡ false
    by_test true further g = cc
    by_test false further g = further g

-- nothing is told of a run that is refused
refused-told : {A : Type 0} (outer : Outer) (room : ℕ) (P : A → Type 0) (site : Site) (rule : Rule) (before : ℕ) (other : Run A)
    → IsOk (refused_at {A = A} site rule before).outcome → Tells room (too_deep outer) P (refused_at site rule before) other
unfolding lift
refused-told outer room P site rule before other ok = let wrong : false ≡ true = ok in cc

-- a view that is asked with and without others in progress: neither node is dead, nor the view in progress
unless-told : (outer : Outer) (room : ℕ) (q : Asked) (being : Option Being) (going far : Bool) (e f : Eval Answer) (before : ℕ)
    → (NoneGoing (stack_in outer) (e before).entered → going ≡ false → far ≡ false)
    → (IsOk (e before).outcome → NoneGoing (stack_in outer) (e before).entered → Tells room (too_deep outer) (InAnswer Any) (e before) (f before))
    → IsOk (unless_dead being (unless_cycle q going e) before).outcome
    → NoneGoing (stack_in outer) (unless_dead being (unless_cycle q going e) before).entered
    → Tells room (too_deep outer) (InAnswer Any) (unless_dead being (unless_cycle q going e) before) (unless_dead being (unless_cycle q far f) before)
unless-told outer room q None going far e f before apart h ok none = refused-told outer room (InAnswer Any) Site.Frame Rule.Dead before _ ok
unless-told outer room q (Some being) true far e f before apart h ok none = refused-told outer room (InAnswer Any) (site_of q) Rule.Cycle before _ ok
unless-told outer room q (Some being) false true e f before apart h ok none = let wrong : true ≡ false = apart none refl in cc
unless-told outer room q (Some being) false false e f before apart h ok none = h ok none

-- a view without room for one more is refused
never-well : (being : Option Being) (q : Asked) (going : Bool) (site : Site) (before : ℕ)
    → IsOk (unless_dead being (unless_cycle q going (refused_at site Rule.Deep)) before).outcome → ⊥
unfolding lift
never-well None q going site before ok = let wrong : false ≡ true = ok in cc
never-well (Some being) q true site before ok = let wrong : false ≡ true = ok in cc
never-well (Some being) q false site before ok = let wrong : false ≡ true = ok in cc

-- a view that is told too deep was refused
too_deep-told : (outer : Outer) (inner : Stack) (q : Asked) (e : Eval Answer) (before : ℕ) → 0 < (e before).height → IfOk (e before).outcome (InAnswer Any)
    → Tells 0 (too_deep outer) (InAnswer Any) (e before) (refused_at (site_of (first_asked (stack_in outer ++ inner) q)) Rule.Deep before)
unfolding lift
too_deep-told outer inner q e before high fine = record { fits = λ low. absurd (omega arith); deep = λ h. refl; good = fine }

enters-high : (q : Asked) (e : Eval Answer) (before : ℕ) → 0 < (enters q.node q.view e before).height
unfolding enters
enters-high q e before = omega arith

entered-apart : (outer : Outer) (inner : Stack) (q : Asked) (e : Eval Answer) (before : ℕ) → NoneGoing (stack_in outer) (enters q.node q.view e before).entered
    → in_progress q inner ≡ false → in_progress q (stack_in outer ++ inner) ≡ false
unfolding enters
entered-apart outer inner q e before none here = going-append q (stack_in outer) inner none.0 here

-- the body of a view, with and without others in progress
bodies-told : (viewing : Viewing) (sight : Sight) (outer : Outer) (room : ℕ) (inner : Stack) (q : Asked) (ask other : Stack → NodeNo → ViewNo → Eval Answer)
    → AskTold outer room (ask (inner ++ q ∷ [])) (other (stack_in outer ++ (inner ++ q ∷ []))) → (before : ℕ)
    → IsOk (body_run viewing sight ask inner q before).outcome → NoneGoing (stack_in outer) (body_run viewing sight ask inner q before).entered
    → Tells (suc room) (too_deep outer) (InAnswer Any) (body_run viewing sight ask inner q before) (body_run viewing sight other (stack_in outer ++ inner) q before)
bodies-told viewing sight outer room inner q ask other asks before ok none =
    let bound : Env = bound_at sight q.node in
    let body : Stack → Eval Answer = λ stack. evaluated (record { viewing = viewing; sight = sight; ask = other stack; here = site_of q }) (viewing.body_of q.view) bound in
    let Family : Stack → Type 0 = λ stack.
    Tells (suc room) (too_deep outer) (InAnswer Any) (body_run viewing sight ask inner q before) (enters q.node q.view (body stack) before) in
    let told : Told outer room Answer (InAnswer Any)
    (evaluated (record { viewing = viewing; sight = sight; ask = ask (inner ++ q ∷ []); here = site_of q }) (viewing.body_of q.view) bound)
    (body (stack_in outer ++ (inner ++ q ∷ []))) =
    evaluating (pairing viewing sight (site_of q) outer room (ask (inner ++ q ∷ [])) (other (stack_in outer ++ (inner ++ q ∷ []))) asks) (viewing.body_of q.view) bound (tt, (tt, tt)) in
    subst Family (sym (append_assoc (stack_in outer) inner (q ∷ []))) (enters-told outer room q _ _ told before ok none)

pub asked-told : (viewing : Viewing) (sight : Sight) (outer : Outer) (depth room : ℕ) (inner : Stack)
    → AskTold outer room (asked viewing sight depth inner) (asked viewing sight room (stack_in outer ++ inner))
asked-told viewing sight outer zero room inner n v before ok none =
    let q : Asked = record { node = n; view = v } in
    absurd (never-well (sight.being n) q (in_progress q inner) (site_of (first_asked inner q)) before ok)
asked-told viewing sight outer (suc depth) zero inner n v before ok none =
    let q : Asked = record { node = n; view = v } in
    unless-told outer 0 q (sight.being n) (in_progress q inner) (in_progress q (stack_in outer ++ inner)) (body_run viewing sight (asked viewing sight depth) inner q)
    (refused_at (site_of (first_asked (stack_in outer ++ inner) q)) Rule.Deep) before
    (entered-apart outer inner q _ before)
    (λ well apart. too_deep-told outer inner q (body_run viewing sight (asked viewing sight depth) inner q) before (enters-high q _ before) (in_any _)) ok none
asked-told viewing sight outer (suc depth) (suc room) inner n v before ok none =
    let q : Asked = record { node = n; view = v } in
    unless-told outer (suc room) q (sight.being n) (in_progress q inner) (in_progress q (stack_in outer ++ inner)) (body_run viewing sight (asked viewing sight depth) inner q)
    (body_run viewing sight (asked viewing sight room) (stack_in outer ++ inner) q) before
    (entered-apart outer inner q _ before)
    (bodies-told viewing sight outer room inner q (asked viewing sight depth) (asked viewing sight room) (asked-told viewing sight outer depth room (inner ++ q ∷ [])) before) ok none

pub height-tells : HeightTellsDeep
height-tells viewing sight q going ok none =
    let outer : Outer = record { first = going.first; others = going.others } in
    let Family : Stack → Type 0 = λ stack.
    Tells going.room (too_deep outer) (InAnswer Any) (alone viewing sight q) (asked viewing sight going.room stack q.node q.view 0) in
    let told : Tells going.room (too_deep outer) (InAnswer Any) (alone viewing sight q) (among viewing sight q going) =
    subst Family (append-nil (stack_of going)) (asked-told viewing sight outer most_views going.room [] q.node q.view 0 ok none) in
    record { fits = told.fits; deep = told.deep }
