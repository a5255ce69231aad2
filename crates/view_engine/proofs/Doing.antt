-- How what calls did is put together.
use Rattle.std.proofs.Common.{◌≡◌, ℕ, suc, ◌+◌, ◌≤◌, ◌<◌, List, [], ◌∷◌, Bool, true, false, Option, Some, None, Result, Ok, Err, is_ok, if◌then◌else◌, refl, sym, ◌∙◌, ap, subst, add_assoc, zero-add, add-zero, arith}
use Rattle.std.specs.Prelude.{OnOk, IsErrAnd, nat_lt}
use Rattle.snap_core.specs.declared.number.NodeNo.{NodeNo}
use Rattle.expr_syntax.specs.declared.number.ViewNo.{ViewNo}
use Rattle.pointer_core.specs.declared.refusal.Rule.{Rule}
use Rattle.eval_core.specs.Answer.{Answer, is_bounded_answer, plain, node}
use Rattle.eval_core.specs.Run.{Eval, Run, Fault, lift, looks, counts, joined, ended, continued, andthen, enters}
use Rattle.eval_core.specs.Scope.{Scope, gives, judged, refused, refused_at}
use Rattle.eval_core.specs.Operating.{in_bounds}
use Rattle.eval_core.specs.declared.cell.Cell.{Cell}
use Rattle.answer_ops.specs.View.{answer_of}
use Rattle.answer_ops.specs.declared.value.Value
use Rattle.answer_ops.proofs.Views.{answer-Plain, answer-Node}
use Rattle.snap_core.specs.View.{view}
use Rattle.snap_core.specs.Value as plains
use Rattle.snap_core.specs.declared.snap.Snap
use Rattle.snap_core.proofs.Views.{view-Null}
use Rattle.eval_core.specs.declared.site.Site.{Site}
use Rattle.view_engine.specs.declared.halt.Halt.{Halt}
use Rattle.view_engine.specs.declared.halt.Halt.TheVariants as halts
use Rattle.view_engine.specs.Halts.{Answers, fault_of}
use Rattle.view_engine.specs.Did.{counted_within, cost_of, Course, course, Did, Read}
use Rattle.view_engine.specs.Steps.{tested}
use Rattle.view_engine.proofs.Alike.{Alike, cost-joined, alike-assoc, alike-gives, alike-sym, alike-same}

-- What is done is done of each run that comes to the same.
pub did-alike : {T A : Type 0} (seen : T → A) (r : Result T Halt) (e f : Eval A) (way : Course) → Alike (e way.counted) (f way.counted) → Did seen r e way → Did seen r f way
did-alike seen r e f way same did = record {
  outcome = subst (λ o. Answers seen r o) same.outcome did.outcome;
  counted = subst (λ n. OnOk r (way.counted_after ≡ way.counted + n)) same.own did.counted;
  ticks = subst (λ n. way.steps_after ≤ way.steps + n) same.cost did.ticks;
}

did-by : {T A : Type 0} (seen : T → A) (r : Result T Halt) (run : Run A) (way : Course) → Type 0
did-by seen r run way =
    Answers seen r run.outcome × OnOk r (way.counted_after ≡ way.counted + run.own) × (way.steps_after ≤ way.steps + cost_of run)

-- a call that counts nothing did it without a step
pub read-did : {T A : Type 0} (seen : T → A) (r : Result T Halt) (e : Eval A) (n s : ℕ) → Read seen r e → Did seen r e (course n n s s)
read-did {T} {A} seen r e n s read = record { outcome = read.outcome n; counted = by_result r (read.own n); ticks = omega arith }
  where
    by_result : (q : Result T Halt) → OnOk q ((e n).own ≡ 0) → OnOk q (n ≡ n + (e n).own)
    by_result (Ok x) h = omega arith
    by_result (Err halt) h = tt

-- what ended one call is handed on
pub did-handed : {T A : Type 0} (seen : T → A) (halt : Halt) (r : Result T Halt) (e : Eval A) (way : Course) → IsErrAnd r (λ x. x ≡ halt) → Did seen (Err halt) e way → Did seen r e way
did-handed seen halt (Ok x) e way is did = absurd is
did-handed {T} seen halt (Err other) e way is did = subst (λ h. Did {T = T} seen (Err h) e way) (sym is) did

pub read-handed : {T A : Type 0} (seen : T → A) (halt : Halt) (r : Result T Halt) (e : Eval A) → IsErrAnd r (λ x. x ≡ halt) → Read seen (Err halt) e → Read seen r e
read-handed seen halt (Ok x) e is read = absurd is
read-handed {T} seen halt (Err other) e is read = subst (λ h. Read {T = T} seen (Err h) e) (sym is) read

-- want of memory ends any evaluation, whatever it is
pub did-memory : {T A : Type 0} (seen : T → A) (halt : Halt) (e : Eval A) (n s : ℕ) → halt ≡ halts.Memory → Did seen (Err halt) e (course n n s s)
did-memory {T} seen halt e n s is = subst (λ h. Did {T = T} seen (Err h) e (course n n s s)) (sym is) (record { outcome = tt; counted = tt; ticks = omega arith })

pub read-memory : {T A : Type 0} (seen : T → A) (halt : Halt) (e : Eval A) → halt ≡ halts.Memory → Read seen (Err halt) e
read-memory {T} seen halt e is = subst (λ h. Read {T = T} seen (Err h) e) (sym is) (record { outcome = λ n. tt; own = λ n. tt })

-- a refusal, or want of memory, ends what was to follow
stopped : {T U A B : Type 0} (seen : T → A) (then_seen : U → B) (halt : Halt) (run : Run A) (f : A → Run B) (o : Result A Fault)
    → Answers seen (Err halt) o → Answers then_seen (Err halt) (continued run f o).outcome
unfolding ended
stopped seen then_seen halts.Memory run f o h = tt
stopped seen then_seen (halts.Refused fault) run f (Ok x) h = cc
stopped seen then_seen (halts.Refused fault) run f (Err other) h = cc

no-less : {A B : Type 0} (run : Run A) (f : A → Run B) (o : Result A Fault) → cost_of run ≤ cost_of (continued run f o)
unfolding joined ended
no-less run f (Ok x) = let e = cost-joined run (f x) in omega arith
no-less run f (Err fault) = omega arith

pub did-stop : {T U A B : Type 0} (seen : T → A) (then_seen : U → B) (halt : Halt) (e : Eval A) (f : A → Eval B) (way : Course)
    → Did seen (Err halt) e way → Did then_seen (Err halt) (andthen e f) way
unfolding andthen
did-stop seen then_seen halt e f way did = record {
  outcome = stopped seen then_seen halt (e way.counted) (λ x. f x (way.counted + (e way.counted).own)) (e way.counted).outcome did.outcome;
  counted = tt;
  ticks = let h = did.ticks in let k = no-less (e way.counted) (λ x. f x (way.counted + (e way.counted).own)) (e way.counted).outcome in omega arith;
}

-- one call did the first, and another one what follows
went_on : {U A B : Type 0} (then_seen : U → B) (x : A) (r : Result U Halt) (run : Run A) (f : A → Eval B) (n m k s t u : ℕ) (o : Result A Fault)
    → o ≡ Ok x → m ≡ n + run.own → t ≤ s + cost_of run → Did then_seen r (f x) (course m k t u)
    → did-by then_seen r (continued run (λ y. f y (n + run.own)) o) (course n k s u)
unfolding joined did-by
went_on then_seen x r run f n m k s t u (Err fault) same own ticks did = cc
went_on {U} {A} {B} then_seen x r run f n m k s t u (Ok y) same own ticks did =
    let is : y ≡ x = cc in
    subst (λ z. did-by then_seen r (joined run (f z (n + run.own))) (course n k s u)) (sym is)
    (subst (λ c. did-by then_seen r (joined run (f x c)) (course n k s u)) own (placed r did))
  where
    placed : (q : Result U Halt) → Did then_seen q (f x) (course m k t u) → did-by then_seen q (joined run (f x m)) (course n k s u)
    placed (Ok z) h = (h.outcome, let c = h.counted in omega arith, let c = h.ticks in let j = cost-joined run (f x m) in omega arith)
    placed (Err halt) h = (h.outcome, tt, let c = h.ticks in let j = cost-joined run (f x m) in omega arith)

pub did-then : {T U A B : Type 0} (seen : T → A) (then_seen : U → B) (x : T) (r : Result U Halt) (e : Eval A) (f : A → Eval B) (n m k s t u : ℕ)
    → Did seen (Ok x) e (course n m s t) → Did then_seen r (f (seen x)) (course m k t u) → Did then_seen r (andthen e f) (course n k s u)
unfolding andthen did-by
did-then seen then_seen x r e f n m k s t u first next =
    let both = went_on then_seen (seen x) r (e n) f n m k s t u (e n).outcome first.outcome first.counted first.ticks next in
    record { outcome = both.0; counted = both.1; ticks = both.2 }

-- the body of a view did it as another body sees it
pub did-enters : {T A : Type 0} (seen : T → A) (r : Result T Halt) (m : NodeNo) (v : ViewNo) (e : Eval A) (n c s t : ℕ)
    → Did seen r e (course 0 c s t) → Did seen r (enters m v e) (course n n s t)
unfolding enters
did-enters {T} {A} seen r m v e n c s t did = record {
  outcome = did.outcome;
  counted = by_result r;
  ticks = let h = did.ticks in omega arith;
}
  where
    by_result : (q : Result T Halt) → OnOk q (n ≡ n + 0)
    by_result (Ok x) = omega arith
    by_result (Err halt) = tt

-- What calls that count nothing read is put together likewise.
read-by : {T A : Type 0} (seen : T → A) (r : Result T Halt) (run : Run A) → Type 0
read-by seen r run = Answers seen r run.outcome × OnOk r (run.own ≡ 0)

read_on : {U A B : Type 0} (then_seen : U → B) (r : Result U Halt) (run : Run A) (f : A → Run B) (x : A) (o : Result A Fault)
    → o ≡ Ok x → run.own ≡ 0 → Answers then_seen r (f x).outcome → OnOk r ((f x).own ≡ 0) → read-by then_seen r (continued run f o)
unfolding joined read-by
read_on then_seen r run f x (Err fault) same own answers next = cc
read_on {U} {A} {B} then_seen r run f x (Ok y) same own answers next =
    let is : y ≡ x = cc in
    subst (λ z. read-by then_seen r (joined run (f z))) (sym is) (answers, by_result r next)
  where
    by_result : (q : Result U Halt) → OnOk q ((f x).own ≡ 0) → OnOk q (run.own + (f x).own ≡ 0)
    by_result (Ok z) h = omega arith
    by_result (Err halt) h = tt

pub read-then : {T U A B : Type 0} (seen : T → A) (then_seen : U → B) (x : T) (r : Result U Halt) (e : Eval A) (f : A → Eval B)
    → Read seen (Ok x) e → Read then_seen r (f (seen x)) → Read then_seen r (andthen e f)
unfolding andthen read-by
read-then seen then_seen x r e f first next =
    let both : (n : ℕ) → read-by then_seen r (andthen e f n) =
    λ n. read_on then_seen r (e n) (λ y. f y (n + (e n).own)) (seen x) (e n).outcome (first.outcome n) (first.own n) (next.outcome (n + (e n).own)) (next.own (n + (e n).own)) in
    record { outcome = λ n. (both n).0; own = λ n. (both n).1 }

pub read-stop : {T U A B : Type 0} (seen : T → A) (then_seen : U → B) (halt : Halt) (e : Eval A) (f : A → Eval B)
    → Read seen (Err halt) e → Read then_seen (Err halt) (andthen e f)
unfolding andthen
read-stop seen then_seen halt e f read = record {
  outcome = λ n. stopped seen then_seen halt (e n) (λ x. f x (n + (e n).own)) (e n).outcome (read.outcome n);
  own = λ n. tt;
}

pub read-look : {T A : Type 0} (seen : T → A) (x : T) (cell : Cell) (y : A) → y ≡ seen x → Read seen (Ok x) (looks cell y)
unfolding looks
read-look seen x cell y same = record { outcome = λ n. ap Ok same; own = λ n. refl }

pub read-looks : {T A B : Type 0} (seen : T → B) (r : Result T Halt) (cell : Cell) (x : A) (f : A → Eval B) → Read seen r (f x) → Read seen r (andthen (looks cell x) f)
read-looks seen r cell x f read = read-then (λ y. y) seen x r (looks cell x) f (read-look (λ y. y) x cell x refl) read

pub read-lift : {T A : Type 0} (seen : T → A) (r : Result T Halt) (o : Result A Fault) → Answers seen r o → Read seen r (lift o)
unfolding lift
read-lift {T} {A} seen r o answers = record { outcome = λ n. answers; own = λ n. by_result r }
  where
    by_result : (q : Result T Halt) → OnOk q (◌≡◌ {A = ℕ} 0 0)
    by_result (Ok z) = refl
    by_result (Err halt) = tt

pub read-alike : {T A : Type 0} (seen : T → A) (r : Result T Halt) (e f : Eval A) → ((n : ℕ) → Alike (e n) (f n)) → Read seen r e → Read seen r f
read-alike seen r e f same read = record {
  outcome = λ n. subst (λ o. Answers seen r o) (same n).outcome (read.outcome n);
  own = λ n. subst (λ own. OnOk r (own ≡ 0)) (same n).own (read.own n);
}

-- A result is tested behind what gives it.
pub tested-stop : {T A : Type 0} (seen : T → A) (s : Scope) (halt : Halt) (e : Eval A) (f : A → Eval Answer) (way : Course)
    → Did seen (Err halt) e way → Did {T = Value.Value} answer_of (Err halt) (tested s (andthen e f)) way
tested-stop seen s halt e f way did = did-stop {T = Value.Value} answer_of answer_of halt (andthen e f) _ way (did-stop seen answer_of halt e f way did)

pub tested-then : {T A : Type 0} (seen : T → A) (s : Scope) (x : T) (r : Result Value.Value Halt) (e : Eval A) (f : A → Eval Answer) (n m k a b c : ℕ)
    → Did seen (Ok x) e (course n m a b) → Did answer_of r (tested s (f (seen x))) (course m k b c) → Did answer_of r (tested s (andthen e f)) (course n k a c)
tested-then seen s x r e f n m k a b c first next =
    let after : Answer → Eval Answer = λ y. judged s (in_bounds y) in
    did-alike answer_of r (andthen e (λ y. andthen (f y) after)) (andthen (andthen e f) after) (course n k a c)
    (alike-sym _ _ (alike-assoc e f after n))
    (did-then seen answer_of x r e (λ y. andthen (f y) after) n m k a b c first next)

pub tested-read-then : {T A : Type 0} (seen : T → A) (s : Scope) (x : T) (r : Result Value.Value Halt) (e : Eval A) (f : A → Eval Answer)
    → Read seen (Ok x) e → Read answer_of r (tested s (f (seen x))) → Read answer_of r (tested s (andthen e f))
tested-read-then seen s x r e f first next =
    let after : Answer → Eval Answer = λ y. judged s (in_bounds y) in
    read-alike answer_of r (andthen e (λ y. andthen (f y) after)) (andthen (andthen e f) after)
    (λ n. alike-sym _ _ (alike-assoc e f after n))
    (read-then seen answer_of x r e (λ y. andthen (f y) after) first next)

pub tested-read-stop : {T A : Type 0} (seen : T → A) (s : Scope) (halt : Halt) (e : Eval A) (f : A → Eval Answer)
    → Read seen (Err halt) e → Read {T = Value.Value} answer_of (Err halt) (tested s (andthen e f))
tested-read-stop seen s halt e f read = read-stop {T = Value.Value} answer_of answer_of halt (andthen e f) _ (read-stop seen answer_of halt e f read)

-- what was given is tested at once
pub tested-gives : (s : Scope) (x : Answer) (r : Result Value.Value Halt) → Read answer_of r (judged s (in_bounds x)) → Read answer_of r (tested s (gives x))
tested-gives s x r read = read-alike answer_of r _ _ (λ n. alike-sym _ _ (alike-gives x (λ y. judged s (in_bounds y)) n)) read

-- a value that is bounded is one that a result may be
pub read-bounded : (s : Scope) (v : Value.Value) → is_bounded_answer (answer_of v) ≡ true → Read answer_of (Ok v) (judged s (in_bounds (answer_of v)))
read-bounded s v bounded = read-lift answer_of (Ok v) _ (rw bounded refl)

-- a refusal of the body itself
pub read-refused : {T A : Type 0} (seen : T → A) (s : Scope) (rule : Rule) (halt : Halt) → halt ≡ halts.Refused (record { rule = rule; site = s.here })
    → Read {A = A} seen (Err halt) (refused s rule)
read-refused seen s rule halt is = subst (λ h. Read seen (Err h) (refused s rule)) (sym is) (read-lift seen (Err (halts.Refused (record { rule = rule; site = s.here }))) _ refl)

pub read-unbounded : (s : Scope) (x : Answer) (halt : Halt) → is_bounded_answer x ≡ false → halt ≡ halts.Refused (record { rule = Rule.Range; site = s.here })
    → Read {T = Value.Value} answer_of (Err halt) (judged s (in_bounds x))
read-unbounded s x halt unbounded is = rw unbounded (read-refused {T = Value.Value} answer_of s Rule.Range halt is)

-- a refusal somewhere
pub read-refused_at : {T A : Type 0} (seen : T → A) (site at : Site) (rule : Rule) (halt : Halt) → halt ≡ halts.Refused (record { rule = rule; site = at }) → at ≡ site
    → Read {A = A} seen (Err halt) (refused_at site rule)
read-refused_at {T} seen site at rule halt is same =
    subst (λ h. Read {T = T} seen (Err h) (refused_at site rule)) (sym is)
    (read-lift seen (Err (halts.Refused (record { rule = rule; site = at }))) _ (ap (λ x. Err (record { rule = rule; site = x })) (sym same)))

-- what was given
pub given-plain : (v : Snap.Snap) (w : plains.Value) → w ≡ view v → Read answer_of (Ok (Value.Plain v)) (gives (plain w))
given-plain v w is = read-lift answer_of (Ok (Value.Plain v)) (Ok (plain w)) (ap Ok (ap plain is ∙ sym (answer-Plain v)))

pub given-null : Read answer_of (Ok (Value.Plain Snap.Null)) (gives (plain plains.null))
given-null = given-plain Snap.Null plains.null (sym view-Null)

pub given-node : (n : NodeNo) → Read answer_of (Ok (Value.Node n)) (gives (node n))
given-node n = read-lift answer_of (Ok (Value.Node n)) (Ok (node n)) (ap Ok (sym (answer-Node n)))
