-- How evaluations of parts of a statement are put together, and what acts they are.
use Rattle.std.proofs.Common.{◌≡◌, ℕ, ◌+◌, ◌≤◌, List, [], ◌∷◌, ◌++◌, Bool, Result, Ok, Err, refl, sym, ◌∙◌, ap, subst, arith}
use Rattle.std.specs.Prelude.{IsErrAnd, IfOk, OnOk}
use Rattle.pointer_core.specs.declared.refusal.Refusal.{Refusal}
use Rattle.pointer_core.specs.declared.refusal.Rule.{Rule}
use Rattle.type_core.specs.Making.{Outcome}
use Rattle.type_core.specs.Made.{refused_as}
use Rattle.live_tree.specs.Contents.{Contents, state}
use Rattle.live_tree.proofs.TakenBack.{kept-same}
use Rattle.eval_core.specs.declared.site.Site.{Site}
use Rattle.eval_core.specs.Answer.{Answer}
use Rattle.eval_core.specs.Run.{Fault, Run, Eval, andthen}
use Rattle.eval_core.specs.Asking.{frame_scope}
use Rattle.eval_core.specs.Evaluating.{truth}
use Rattle.eval_core.specs.Scope.{Scope, Viewing, gives, judged, at_site, refused_at}
use Rattle.eval_core.specs.Sight.{Sight}
use Rattle.answer_ops.specs.View.{answer_of}
use Rattle.answer_ops.specs.declared.value.Value.{Value}
use Rattle.view_engine.specs.Did.{counted_within, cost_of, Course, course, Did, Read}
use Rattle.view_engine.specs.Halts.{Answers}
use Rattle.view_engine.specs.Told.{Telling, Tells}
use Rattle.view_engine.specs.declared.halt.Halt.{Halt}
use Rattle.view_engine.specs.declared.halt.Halt.TheVariants as halts
use Rattle.view_engine.specs.declared.halt.Fault as faults
use Rattle.view_engine.specs.declared.halt.RunError.{RunError}
use Rattle.view_engine.specs.declared.halt.RunError.TheVariants as errors
use Rattle.view_engine.proofs.Doing.{did-then, did-stop, did-memory, read-did, read-lift}
use Rattle.action_core.specs.Act.{Tried, Met, Ran, came, with_met}
use Rattle.action_core.specs.Behaving.{Behaving, told}
use Rattle.action_core.specs.Running.{two, three, evaluates_in}
use Rattle.action_core.proofs.Composing.{evaluates-came}
use Rattle.action_steps.specs.Acting.{behaving_of, acting_of}
use Rattle.action_steps.specs.Doing.{Point, point, state_at, spent, Stands, Came, Performs, IsOutcome, IsRefusal}
use Rattle.action_steps.specs.Parts.{scope_in, telling_in, IsTold, IsTruthIn, Evaluates, EvaluatesIn}
use Rattle.action_steps.specs.declared.acting.Acting.{Acting}

-- What views told, is what evaluating came to.
pub part-by : (t : Telling) (r : Result Value RunError) (e : Eval Answer) (n m a b : ℕ) → Tells t r (e n).outcome
    → OnOk r (m ≡ n + (e n).own) → b ≤ a + cost_of (e n) → Evaluates t answer_of r e (course n m a b)
part-by t (Ok x) e n m a b tells counts ticks = record { halted = Ok x; did = record { outcome = tells; counted = counts; ticks = ticks }; told = refl }
part-by t (Err (errors.Refused r)) e n m a b tells counts ticks =
    let fault : faults.Fault = record { rule = tells.0.rule; site = tells.0.site } in
    record { halted = Err (halts.Refused fault); did = record { outcome = tells.1; counted = tt; ticks = ticks }; told = (fault, refl, tells.2) }
part-by t (Err errors.Memory) e n m a b tells counts ticks =
    record { halted = Err halts.Memory; did = record { outcome = tt; counted = tt; ticks = ticks }; told = refl }

-- what is told of an answer for which a fact holds
pub tells-fine : (t : Telling) (P : Answer → Type 0) (r : Result Value RunError) (o : Result Answer Fault) → Tells t r o → IfOk o P → IfOk r (λ x. P (answer_of x))
tells-fine t P (Ok x) o tells h = subst (λ q. IfOk q P) tells h
tells-fine t P (Err e) o tells h = tt

-- One part and then another one.

pub part-then : {T U A B : Type 0} (t : Telling) (seen : T → A) (then_seen : U → B) (x : T) (r : Result U RunError) (e : Eval A) (f : A → Eval B) (n m k a b c : ℕ)
    → Evaluates t seen (Ok x) e (course n m a b) → Evaluates t then_seen r (f (seen x)) (course m k b c) → Evaluates t then_seen r (andthen e f) (course n k a c)
part-then t seen then_seen x r e f n m k a b c first next = record {
  halted = next.halted;
  did = did-then seen then_seen x next.halted e f n m k a b c (subst (λ h. Did seen h e (course n m a b)) first.told first.did) next.did;
  told = next.told;
}

-- a refusal, or want of memory, ends what was to follow
pub part-stop : {T U A B : Type 0} (t : Telling) (seen : T → A) (then_seen : U → B) (error : RunError) (e : Eval A) (f : A → Eval B) (way : Course)
    → Evaluates {T = T} t seen (Err error) e way → Evaluates {T = U} t then_seen (Err error) (andthen e f) way
part-stop {T} {U} t seen then_seen errors.Memory e f way first = record {
  halted = Err halts.Memory;
  did = did-stop {T = T} {U = U} seen then_seen halts.Memory e f way (subst (λ h. Did seen h e way) first.told first.did);
  told = refl;
}
part-stop {T} {U} t seen then_seen (errors.Refused r) e f way first = record {
  halted = Err (halts.Refused first.told.0);
  did = did-stop {T = T} {U = U} seen then_seen (halts.Refused first.told.0) e f way (subst (λ h. Did seen h e way) first.told.1 first.did);
  told = (first.told.0, refl, first.told.2);
}

-- what ended one part is handed on
pub part-handed : {T A : Type 0} (t : Telling) (seen : T → A) (error : RunError) (r : Result T RunError) (e : Eval A) (way : Course) → IsErrAnd r (λ x. x ≡ error)
    → Evaluates {T = T} t seen (Err error) e way → Evaluates t seen r e way
part-handed t seen error (Ok x) e way is h = absurd is
part-handed {T} t seen error (Err other) e way is h = subst (λ x. Evaluates {T = T} t seen (Err x) e way) (sym is) h

-- what is told of an evaluation that counts nothing
pub part-read : {T A : Type 0} (t : Telling) (seen : T → A) (r : Result T RunError) (halted : Result T Halt) (e : Eval A) (n a : ℕ) → IsTold t r halted
    → Read seen halted e → Evaluates t seen r e (course n n a a)
part-read t seen r halted e n a told read = record { halted = halted; did = read-did seen halted e n a read; told = told }

pub part-gives : {T A : Type 0} (t : Telling) (seen : T → A) (x : T) (y : A) (n a : ℕ) → y ≡ seen x → Evaluates t seen (Ok x) (gives y) (course n n a a)
part-gives t seen x y n a same = part-read t seen (Ok x) (Ok x) (gives y) n a refl (read-lift seen (Ok x) (Ok y) (ap Ok same))

-- want of memory ends any evaluation
pub part-memory : {T A : Type 0} (t : Telling) (seen : T → A) (e : Eval A) (n a : ℕ) → Evaluates {T = T} t seen (Err errors.Memory) e (course n n a a)
part-memory {T} t seen e n a = record { halted = Err halts.Memory; did = did-memory {T = T} seen halts.Memory e n a refl; told = refl }

-- a refusal in the frame
pub part-refused : {T A : Type 0} (t : Telling) (seen : T → A) (error : RunError) (by : Rule) (n a : ℕ) → IsRefusal error t.frame by
    → Evaluates {T = T} {A = A} t seen (Err error) (refused_at Site.Frame by) (course n n a a)
part-refused t seen errors.Memory by n a is = part-memory t seen (refused_at Site.Frame by) n a
part-refused {T} {A} t seen (errors.Refused r) by n a is =
    let fault : faults.Fault = record { rule = by; site = Site.Frame } in
    part-read t seen (Err (errors.Refused r)) (Err (halts.Refused fault)) (refused_at Site.Frame by) n a (fault, refl, is)
    (read-lift {T = T} {A = A} seen (Err (halts.Refused fault)) (Err (record { rule = by; site = Site.Frame })) refl)

-- As an act: the parts of a statement are evaluated from nothing.

spent-last : (met : List Met) (m : Met) → spent (met ++ m ∷ []) ≡ spent met + (m.own + counted_within m.entered)
spent-last [] m = omega arith
spent-last (x ∷ met) m = let h = spent-last met m in omega (arith, h)

outcome-told : {T A : Type 0} (t : Telling) (seen : T → A) (r : Result T RunError) (halted : Result T Halt) (o : Result A Fault) → IsTold t r halted → Answers seen halted o
    → IsOutcome seen r (told t o)
outcome-told {T} {A} t seen (Ok x) halted o is answers = ap (told t) (subst (λ h. Answers seen h o) is answers)
outcome-told {T} {A} t seen (Err (errors.Refused r)) halted o is answers =
    let refused : Refusal → Outcome A = λ q. Err (refused_as q) in
    ap (told t) (subst (λ h. Answers seen h o) is.1 answers) ∙ ap refused (sym is.2)
outcome-told t seen (Err errors.Memory) halted o is answers = tt

run-came : {T A : Type 0} (seen : T → A) (r : Result T RunError) (t : Telling) (run : Run A) (tried : List Tried) (met : List Met) (p q : Point)
    → p.tree ≡ q.tree → p.counted ≡ q.counted → q.steps ≤ p.steps + cost_of run → IsOutcome seen r (told t run.outcome)
    → Came seen r (came (told t run.outcome) (with_met run (state_at p tried met))) (spent met) p q
run-came {T} {A} seen r t run tried met p q tree counted ticks is = by_result r is
  where
    stands : Stands p q (spent met) (with_met run (state_at p tried met))
    stands = record {
      tree = tree;
      counted = counted;
      ticks = let e = spent-last met (record { own = run.own; entered = run.entered }) in omega (arith, e, ticks);
    }

    by_result : (r : Result T RunError) → IsOutcome seen r (told t run.outcome) → Came seen r (came (told t run.outcome) (with_met run (state_at p tried met))) (spent met) p q
    by_result (Ok x) is = (is, stands)
    by_result (Err (errors.Refused e)) is = (is, stands)
    by_result (Err errors.Memory) is = tt

pub parts-act : {T A : Type 0} (seen : T → A) (r : Result T RunError) (a : Acting) (tree : Contents) (eval : Scope → Eval A) (n c x y : ℕ)
    → EvaluatesIn a tree seen r eval (course 0 c x y)
    → Performs seen r (evaluates_in (acting_of a) eval) (point (state tree) n x) (point (state tree) n y)
parts-act {T} {A} seen r a tree eval n c x y h =
    let behaving : Behaving = behaving_of a.schema.now in
    let p : Point = point (state tree) n x in
    let q : Point = point (state tree) n y in
    let t : Telling = telling_in a tree in
    let run : Run A = eval (scope_in a tree) 0 in
    record {
      came = λ tried met.
          subst (λ (ran : Ran A). Came seen r ran (spent met) p q) (sym (evaluates-came behaving a.frame.now eval (state_at p tried met)))
          (run-came seen r t run tried met p q refl refl h.did.ticks (outcome-told t seen r h.halted run.outcome h.told h.did.outcome));
      back = kept-same (state tree) (state tree) refl;
      rises = omega arith;
    }

-- Two parts, and three.

pub two-first : {T W A B : Type 0} (t : Telling) (seen : T → A) (pair : W → A × B) (error : RunError) (e : Eval A) (f : Eval B) (way : Course)
    → Evaluates {T = T} t seen (Err error) e way → Evaluates {T = W} t pair (Err error) (two e f) way
two-first {T} {W} t seen pair error e f way h = part-stop {T = T} {U = W} t seen pair error e (λ x. andthen f (λ y. gives (x, y))) way h

pub two-second : {T U W A B : Type 0} (t : Telling) (seen : T → A) (then_seen : U → B) (pair : W → A × B) (x : T) (error : RunError) (e : Eval A) (f : Eval B) (n m k a b c : ℕ)
    → Evaluates t seen (Ok x) e (course n m a b) → Evaluates {T = U} t then_seen (Err error) f (course m k b c)
    → Evaluates {T = W} t pair (Err error) (two e f) (course n k a c)
two-second {T} {U} {W} t seen then_seen pair x error e f n m k a b c first second =
    part-then t seen pair x (Err error) e (λ y. andthen f (λ z. gives (y, z))) n m k a b c first
    (part-stop {T = U} {U = W} t then_seen pair error f (λ z. gives (seen x, z)) (course m k b c) second)

pub two-both : {T U W A B : Type 0} (t : Telling) (seen : T → A) (then_seen : U → B) (pair : W → A × B) (x : T) (y : U) (w : W) (e : Eval A) (f : Eval B) (n m k a b c : ℕ)
    → (seen x, then_seen y) ≡ pair w
    → Evaluates t seen (Ok x) e (course n m a b) → Evaluates t then_seen (Ok y) f (course m k b c)
    → Evaluates t pair (Ok w) (two e f) (course n k a c)
two-both t seen then_seen pair x y w e f n m k a b c same first second =
    part-then t seen pair x (Ok w) e (λ v. andthen f (λ z. gives (v, z))) n m k a b c first
    (part-then t then_seen pair y (Ok w) f (λ z. gives (seen x, z)) m k k b c c second
    (part-gives t pair w (seen x, then_seen y) k c same))

abbrev then_two : {A B C : Type 0} → Eval B → Eval C → A → Eval (A × B × C)
then_two f g x = andthen f (λ y. andthen g (λ z. gives (x, y, z)))

pub three-first : {T W A B C : Type 0} (t : Telling) (seen : T → A) (all : W → A × B × C) (error : RunError) (e : Eval A) (f : Eval B) (g : Eval C) (way : Course)
    → Evaluates {T = T} t seen (Err error) e way → Evaluates {T = W} t all (Err error) (three e f g) way
three-first {T} {W} t seen all error e f g way h = part-stop {T = T} {U = W} t seen all error e (then_two f g) way h

pub three-second : {T U W A B C : Type 0} (t : Telling) (seen : T → A) (then_seen : U → B) (all : W → A × B × C) (x : T) (error : RunError) (e : Eval A) (f : Eval B) (g : Eval C) (n m k a b c : ℕ)
    → Evaluates t seen (Ok x) e (course n m a b) → Evaluates {T = U} t then_seen (Err error) f (course m k b c)
    → Evaluates {T = W} t all (Err error) (three e f g) (course n k a c)
three-second {T} {U} {W} t seen then_seen all x error e f g n m k a b c first second =
    part-then t seen all x (Err error) e (then_two f g) n m k a b c first
    (part-stop {T = U} {U = W} t then_seen all error f (λ y. andthen g (λ z. gives (seen x, y, z))) (course m k b c) second)

pub three-third : {T U V W A B C : Type 0} (t : Telling) (seen : T → A) (then_seen : U → B) (last_seen : V → C) (all : W → A × B × C) (x : T) (y : U) (error : RunError)
    (e : Eval A) (f : Eval B) (g : Eval C) (n m k l a b c d : ℕ)
    → Evaluates t seen (Ok x) e (course n m a b) → Evaluates t then_seen (Ok y) f (course m k b c) → Evaluates {T = V} t last_seen (Err error) g (course k l c d)
    → Evaluates {T = W} t all (Err error) (three e f g) (course n l a d)
three-third {T} {U} {V} {W} t seen then_seen last_seen all x y error e f g n m k l a b c d first second third =
    part-then t seen all x (Err error) e (then_two f g) n m l a b d first
    (part-then t then_seen all y (Err error) f (λ v. andthen g (λ z. gives (seen x, v, z))) m k l b c d second
    (part-stop {T = V} {U = W} t last_seen all error g (λ z. gives (seen x, then_seen y, z)) (course k l c d) third))

pub three-all : {T U V W A B C : Type 0} (t : Telling) (seen : T → A) (then_seen : U → B) (last_seen : V → C) (all : W → A × B × C) (x : T) (y : U) (z : V) (w : W)
    (e : Eval A) (f : Eval B) (g : Eval C) (n m k l a b c d : ℕ) → (seen x, then_seen y, last_seen z) ≡ all w
    → Evaluates t seen (Ok x) e (course n m a b) → Evaluates t then_seen (Ok y) f (course m k b c) → Evaluates t last_seen (Ok z) g (course k l c d)
    → Evaluates t all (Ok w) (three e f g) (course n l a d)
three-all t seen then_seen last_seen all x y z w e f g n m k l a b c d same first second third =
    part-then t seen all x (Ok w) e (then_two f g) n m l a b d first
    (part-then t then_seen all y (Ok w) f (λ v. andthen g (λ u. gives (seen x, v, u))) m k l b c d second
    (part-then t last_seen all z (Ok w) g (λ u. gives (seen x, then_seen y, u)) k l l c d d third
    (part-gives t all w (seen x, then_seen y, last_seen z) l d same)))

-- A truth.

pub truth-told : (t : Telling) (viewing : Viewing) (sight : Sight) (r : Result Bool RunError) (x : Answer) (n a : ℕ) → IsTruthIn r x t.frame
    → Evaluates t (λ b. b) r (truth (frame_scope viewing sight) x) (course n n a a)
truth-told t viewing sight (Ok b) x n a is =
    part-read t (λ c. c) (Ok b) (Ok b) (truth (frame_scope viewing sight) x) n a refl
    (read-lift (λ c. c) (Ok b) _ (ap (at_site Site.Frame) is))
truth-told t viewing sight (Err error) x n a is =
    subst (λ (o : Result Bool Rule). Evaluates {T = Bool} t (λ c. c) (Err error) (judged (frame_scope viewing sight) o) (course n n a a)) (sym is.0)
    (part-refused {T = Bool} {A = Bool} t (λ c. c) error Rule.Kind n a is.1)
