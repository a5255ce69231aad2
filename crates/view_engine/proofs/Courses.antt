-- What the calls of the cycle did, in the order of their code.
use Rattle.std.proofs.Common.{◌≡◌, ℕ, ◌+◌, ◌<◌, ◌≤◌, List, [], ◌∷◌, Bool, true, false, Result, Ok, Err, if◌then◌else◌, refl, sym, ◌∙◌, ap, subst, arith}
use Rattle.std.specs.Prelude.{OnOk, nat_lt}
use Rattle.std.proofs.lemmas.Bool.{lt-ltb, le-ltb}
use Rattle.eval_core.specs.declared.site.Site.{Site}
use Rattle.expr_syntax.specs.Syntax.{Expression}
use Rattle.pointer_core.specs.declared.refusal.Rule.{Rule}
use Rattle.eval_core.specs.Answer.{Answer}
use Rattle.eval_core.specs.Run.{Eval, Fault, counts, andthen, lift}
use Rattle.eval_core.specs.Scope.{Scope, Env, gives, judged, at_site}
use Rattle.eval_core.specs.Operating.{in_bounds, truth_in}
use Rattle.eval_core.specs.Evaluating.{counted, truth, evaluated}
use Rattle.answer_ops.specs.View.{answer_of}
use Rattle.answer_ops.specs.declared.value.Value.{Value}
use Rattle.view_engine.specs.declared.halt.Halt.{Halt}
use Rattle.view_engine.specs.declared.halt.Halt.TheVariants as halts
use Rattle.view_engine.specs.declared.step.Step.{Step}
use Rattle.view_engine.specs.declared.member.Got.{Got}
use Rattle.view_engine.specs.declared.member.Got.TheVariants as got
use Rattle.view_engine.specs.Halts.{Answers, fault_of}
use Rattle.view_engine.specs.Did.{Course, course, cost_of, Did, Read}
use Rattle.view_engine.specs.Got.{Finds, reached}
use Rattle.view_engine.specs.Progress.{nothing_of}
use Rattle.view_engine.specs.Steps.{tested, stepped, IsStepOf}
use Rattle.view_engine.proofs.Alike.{alike-gives, alike-sym, alike-same, alike-then, Alike}
use Rattle.view_engine.proofs.Counted.{IsCounted, evaluated-counted}
use Rattle.view_engine.proofs.Doing.{did-alike, did-then, did-stop, read-did, read-lift, read-stop, tested-then, tested-stop}

-- Counting one expression more.
pub counts-refused : (site : Site) (halt : Halt) (n a : ℕ) → 100000 ≤ n → halt ≡ halts.Refused (record { rule = Rule.Work; site = site })
    → Did {T = Step} nothing_of (Err halt) (counts site) (course n n a a)
unfolding counts
counts-refused site halt n a many is =
    let e : nat_lt n 100000 ≡ false = le-ltb n 100000 many in
    rw is (record { outcome = rw e refl; counted = tt; ticks = omega arith })

pub counts-one : (site : Site) (step : Step) (n a b : ℕ) → n < 100000 → b ≡ a + 1 → Did nothing_of (Ok step) (counts site) (course n (n + 1) a b)
unfolding counts
counts-one site step n a b few tick =
    let e : nat_lt n 100000 ≡ true = lt-ltb n 100000 few in
    record { outcome = rw e refl; counted = rw e refl; ticks = rw e (omega arith) }

-- an expression that isn't counted is refused
pub uncounted : (s : Scope) (e : Expression) (env : Env) (halt : Halt) (way : Course)
    → Did {T = Step} nothing_of (Err halt) (counts s.here) way → Did {T = Value} answer_of (Err halt) (evaluated s e env) way
uncounted s e env halt way did =
    let inner = evaluated-counted s e env in
    subst (λ eval. Did {T = Value} answer_of (Err halt) eval way) (sym inner.is)
    (did-stop {U = Value} nothing_of answer_of halt (counts s.here) (λ _. tested s inner.inner) way did)

-- once it is counted, its step is taken
pub counted-then : (s : Scope) (e : Expression) (env : Env) (step : Step) (r : Result Value Halt) (n m k a b c : ℕ) → IsStepOf step e
    → Did nothing_of (Ok step) (counts s.here) (course n m a b) → Did answer_of r (tested s (stepped s step env)) (course m k b c)
    → Did answer_of r (evaluated s e env) (course n k a c)
counted-then s e env step r n m k a b c is first next =
    subst (λ eval. Did answer_of r eval (course n k a c)) (sym (is s env))
    (did-then nothing_of answer_of step r (counts s.here) (λ _. tested s (stepped s step env)) n m k a b c first next)

-- a step is the one that it is known to be
pub step-taken : (s : Scope) (step other : Step) (env : Env) (r : Result Value Halt) (way : Course) → step ≡ other
    → Did answer_of r (tested s (stepped s other env)) way → Did answer_of r (tested s (stepped s step env)) way
step-taken s step other env r way is did = subst (λ x. Did answer_of r (tested s (stepped s x env)) way) (sym is) did

-- a value that was looked up is reached
pub value-reached : (s : Scope) (found : Got) (x : Value) (n a : ℕ) → found ≡ got.Value x → Did answer_of (Ok x) (reached s found) (course n n a a)
value-reached s found x n a is =
    subst (λ g. Did answer_of (Ok x) (reached s g) (course n n a a)) (sym is)
    (read-did answer_of (Ok x) (gives (answer_of x)) n a (read-lift answer_of (Ok x) (Ok (answer_of x)) refl))

-- A name leads to a value that was read, or to a view that was asked.
given-as : (x : Value) (r : Result Value Halt) (e : Eval Answer) (n a b : ℕ) → Read answer_of (Ok x) e → Did answer_of r (gives (answer_of x)) (course n n a b)
    → Did answer_of r e (course n n a b)
unfolding lift
given-as x r e n a b read did = record {
  outcome = subst (λ o. Answers answer_of r o) (sym (read.outcome n)) did.outcome;
  counted = by_result r did.counted (read.own n);
  ticks = let h = did.ticks in omega arith;
}
  where
    by_result : (q : Result Value Halt) → OnOk q (n ≡ n + 0) → (e n).own ≡ 0 → OnOk q (n ≡ n + (e n).own)
    by_result (Ok y) h own = omega arith
    by_result (Err halt) h own = tt

pub found-did : (s : Scope) (found : Got) (r : Result Value Halt) (e : Eval Answer) (n a b : ℕ)
    → Finds s (Ok found) e → Did answer_of r (reached s found) (course n n a b) → Did answer_of r e (course n n a b)
found-did s (got.Value x) r e n a b finds did = given-as x r e n a b finds did
found-did s (got.View node view) r e n a b finds did =
    did-alike answer_of r (s.ask node view) e (course n n a b) (subst (λ run. Alike (s.ask node view n) run) (sym (finds n)) (alike-same (s.ask node view n))) did

pub unfound-did : (s : Scope) (halt : Halt) (e : Eval Answer) (n a : ℕ) → Finds s (Err halt) e → Did {T = Value} answer_of (Err halt) e (course n n a a)
unfound-did s halt e n a finds = read-did answer_of (Err halt) e n a finds

-- what was found, and its result tested
pub found-tested : (s : Scope) (found : Got) (x : Value) (r : Result Value Halt) (e : Eval Answer) (n a b : ℕ)
    → Finds s (Ok found) e → Did answer_of (Ok x) (reached s found) (course n n a b) → Read answer_of r (judged s (in_bounds (answer_of x)))
    → Did answer_of r (tested s e) (course n n a b)
found-tested s found x r e n a b finds did last =
    did-then answer_of answer_of x r e (λ y. judged s (in_bounds y)) n n n a b b (found-did s found (Ok x) e n a b finds did)
    (read-did answer_of r (judged s (in_bounds (answer_of x))) n b last)

pub found-refused : (s : Scope) (found : Got) (halt : Halt) (e : Eval Answer) (n a b : ℕ)
    → Finds s (Ok found) e → Did {T = Value} answer_of (Err halt) (reached s found) (course n n a b) → Did {T = Value} answer_of (Err halt) (tested s e) (course n n a b)
found-refused s found halt e n a b finds did =
    did-stop {T = Value} {U = Value} answer_of answer_of halt e (λ y. judged s (in_bounds y)) (course n n a b) (found-did s found (Err halt) e n a b finds did)

pub unfound-tested : (s : Scope) (halt : Halt) (e : Eval Answer) (n a : ℕ) → Finds s (Err halt) e → Did {T = Value} answer_of (Err halt) (tested s e) (course n n a a)
unfound-tested s halt e n a finds =
    did-stop {T = Value} {U = Value} answer_of answer_of halt e (λ y. judged s (in_bounds y)) (course n n a a) (unfound-did s halt e n a finds)

-- a value that was given is tested
pub last-tested : (s : Scope) (x : Value) (r : Result Value Halt) (e : Eval Answer) (n m a b : ℕ)
    → Did answer_of (Ok x) e (course n m a b) → Read answer_of r (judged s (in_bounds (answer_of x))) → Did answer_of r (tested s e) (course n m a b)
last-tested s x r e n m a b did last =
    did-then answer_of answer_of x r e (λ y. judged s (in_bounds y)) n m m a b b did (read-did answer_of r (judged s (in_bounds (answer_of x))) m b last)

pub last-refused : (s : Scope) (halt : Halt) (e : Eval Answer) (way : Course)
    → Did {T = Value} answer_of (Err halt) e way → Did {T = Value} answer_of (Err halt) (tested s e) way
last-refused s halt e way did = did-stop {T = Value} {U = Value} answer_of answer_of halt e (λ y. judged s (in_bounds y)) way did

-- a choice goes on as its truth says
pub truth-chose : (s : Scope) (x : Answer) (b : Bool) (f : Bool → Eval Answer) (r : Result Value Halt) (way : Course) → truth_in x ≡ Ok b
    → Did answer_of r (tested s (f b)) way → Did answer_of r (tested s (andthen (truth s x) f)) way
truth-chose s x b f r way is did =
    subst (λ o. Did answer_of r (tested s (andthen (judged s o) f)) way) (sym is)
    (did-alike answer_of r (tested s (f b)) (tested s (andthen (gives b) f)) way (chosen way.counted) did)
  where
    chosen : (n : ℕ) → Alike (tested s (f b) n) (tested s (andthen (gives b) f) n)
    chosen n = alike-sym _ _ (alike-then (andthen (gives b) f) (f b) (λ y. judged s (in_bounds y)) (λ y. judged s (in_bounds y)) n (alike-gives b f n) (λ y m. alike-same _))

-- a truth that was read is one
at_ok : (site : Site) (o : Result Bool Rule) (b : Bool) → at_site site o ≡ Ok b → o ≡ Ok b
at_ok site (Ok c) b is = let same : c ≡ b = cc in ap Ok same
at_ok site (Err rule) b is = cc

pub truth-known : (s : Scope) (x : Answer) (b : Bool) → Read (λ (c : Bool). c) (Ok b) (truth s x) → truth_in x ≡ Ok b
unfolding lift
truth-known s x b read = at_ok s.here (truth_in x) b (read.outcome 0)
