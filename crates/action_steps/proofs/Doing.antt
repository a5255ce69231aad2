-- How calls that do acts are put together.
use Rattle.std.proofs.Common.{◌≡◌, ℕ, ◌≤◌, List, [], Result, Ok, Err, refl, sym, ◌∙◌, ap, subst, arith}
use Rattle.std.specs.Prelude.{IsErrAnd}
use Rattle.snap_core.specs.declared.number.NodeNo.{NodeNo}
use Rattle.pointer_core.specs.Path.{Path}
use Rattle.pointer_core.specs.declared.refusal.Refusal.{Refusal}
use Rattle.pointer_core.specs.declared.refusal.Rule.{Rule}
use Rattle.pointer_core.specs.declared.refusal.Rule.TheVariants as rule
use Rattle.type_core.specs.Making.{Refused, Outcome}
use Rattle.type_core.specs.Made.{refused_as}
use Rattle.edit_core.specs.Labelled.{Labelled}
use Rattle.live_tree.specs.Laws.{CanBeTakenBack, given_back}
use Rattle.live_tree.proofs.TakenBack.{kept-same, kept-together}
use Rattle.tree_core.specs.Outcome.{refuse}
use Rattle.tree_core.specs.State.{State as Tree}
use Rattle.eval_core.specs.Answer.{Answer, node, plain, several}
use Rattle.view_engine.specs.declared.halt.RunError.{RunError}
use Rattle.view_engine.specs.declared.halt.RunError.TheVariants as halts
use Rattle.action_core.specs.Act.{Tried, Met, State, Ran, Act, came, tells, refuses, looks, ◌>>=◌, or_else, all_or_nothing, taken_back}
use Rattle.action_core.specs.Behaving.{on_node}
use Rattle.action_core.proofs.Composing.{then-came, then-refused, tried-came, tried-refused, atomic-came, atomic-refused, tells-came, looks-came}
use Rattle.action_steps.specs.Doing.{Point, state_at, spent, Stands, Came, Performs, back_at, IsOutcome, IsRefusal, IsNodeIn}

-- A point stands for its state.

pub stands-still : (p : Point) (tried : List Tried) (met : List Met) → Stands p p (spent met) (state_at p tried met)
stands-still p tried met = record { tree = refl; counted = refl; ticks = omega arith }

same_state : (p : Point) (before : ℕ) (from : Point) (s : State) → Stands from p before s → state_at p s.tried s.met ≡ s
same_state p before from s stands =
    ap (λ (t : Tree). record { tree = t; tried = s.tried; counted = p.counted; met = s.met }) (sym stands.tree)
    ∙ ap (λ n. record { tree = s.tree; tried = s.tried; counted = n; met = s.met }) (sym stands.counted)

stands_on : (a b c : Point) (before : ℕ) (s t : State) → Stands a b before s → Stands b c (spent s.met) t → Stands a c before t
stands_on a b c before s t first next = record {
  tree = next.tree;
  counted = next.counted;
  ticks = let h = first.ticks in let k = next.ticks in omega arith;
}

came_on : {T A : Type 0} (seen : T → A) (r : Result T RunError) (ran : Ran A) (a b c : Point) (before : ℕ) (s : State)
    → Stands a b before s → Came seen r ran (spent s.met) b c → Came seen r ran before a c
came_on seen (Ok x) ran a b c before s first next = (next.0, stands_on a b c before s ran.state first next.1)
came_on seen (Err (halts.Refused r)) ran a b c before s first next = (next.0, stands_on a b c before s ran.state first next.1)
came_on seen (Err halts.Memory) ran a b c before s first next = tt

-- One call and then another one.

pub acts-then : {T U A B : Type 0} (seen : T → A) (then_seen : U → B) (x : T) (r : Result U RunError) (act : Act A) (next : A → Act B) (a b c : Point)
    → Performs seen (Ok x) act a b → Performs then_seen r (next (seen x)) b c → Performs then_seen r (act >>= next) a c
acts-then {T} {U} {A} {B} seen then_seen x r act next a b c first second = record {
  came = λ tried met.
      let s : State = state_at a tried met in
      let t : State = (act s).state in
      let h = first.came tried met in
      let e : act s ≡ came (Ok (seen x)) t = ap (λ o. came o t) h.0 in
      let same : state_at b t.tried t.met ≡ t = same_state b (spent met) a t h.1 in
      let k : Came then_seen r (next (seen x) t) (spent t.met) b c =
      subst (λ (u : State). Came then_seen r (next (seen x) u) (spent t.met) b c) same (second.came t.tried t.met) in
      subst (λ (ran : Ran B). Came then_seen r ran (spent met) a c) (sym (then-came act next s t (seen x) e))
      (came_on then_seen r (next (seen x) t) a b c (spent met) t h.1 k);
  back = kept-together a.tree b.tree c.tree first.back second.back;
  rises = let h = first.rises in let k = second.rises in omega arith;
}

pub acts-stop : {T U A B : Type 0} (seen : T → A) (then_seen : U → B) (e : RunError) (act : Act A) (next : A → Act B) (a b : Point)
    → Performs {T = T} seen (Err e) act a b → Performs {T = U} then_seen (Err e) (act >>= next) a b
acts-stop {T} {U} seen then_seen halts.Memory act next a b first = record { came = λ tried met. tt; back = first.back; rises = first.rises }
acts-stop {T} {U} {A} {B} seen then_seen (halts.Refused r) act next a b first = record {
  came = λ tried met.
      let s : State = state_at a tried met in
      let t : State = (act s).state in
      let h = first.came tried met in
      let e : act s ≡ came (Err (refused_as r)) t = ap (λ o. came o t) h.0 in
      subst (λ (ran : Ran B). Came {T = U} then_seen (Err (halts.Refused r)) ran (spent met) a b) (sym (then-refused act next s t (refused_as r) e)) (refl, h.1);
  back = first.back;
  rises = first.rises;
}

-- what ended one call is handed on
pub acts-handed : {T A : Type 0} (seen : T → A) (e : RunError) (r : Result T RunError) (act : Act A) (a b : Point)
    → IsErrAnd r (λ x. x ≡ e) → Performs {T = T} seen (Err e) act a b → Performs seen r act a b
acts-handed seen e (Ok x) act a b is did = absurd is
acts-handed {T} seen e (Err other) act a b is did = subst (λ h. Performs {T = T} seen (Err h) act a b) (sym is) did

-- want of memory ends any act, whatever it is
pub acts-memory : {T A : Type 0} (seen : T → A) (e : RunError) (act : Act A) (a b : Point) → e ≡ halts.Memory → CanBeTakenBack a.tree b.tree → a.counted ≤ b.counted
    → Performs {T = T} seen (Err e) act a b
acts-memory {T} seen e act a b is back rises =
    subst (λ h. Performs {T = T} seen (Err h) act a b) (sym is) (record { came = λ tried met. tt; back = back; rises = rises })

-- as it is seen otherwise
pub acts-seen : {T U A : Type 0} (seen : T → A) (then_seen : U → A) (x : T) (y : U) (act : Act A) (a b : Point) → seen x ≡ then_seen y
    → Performs seen (Ok x) act a b → Performs then_seen (Ok y) act a b
acts-seen seen then_seen x y act a b same did = record {
  came = λ tried met. let h = did.came tried met in (h.0 ∙ ap Ok same, h.1);
  back = did.back;
  rises = did.rises;
}

-- What leaves the tree.

told_at : {T A : Type 0} (seen : T → A) (r : Result T RunError) (o : Outcome A) (p : Point) (tried : List Tried) (met : List Met)
    → IsOutcome seen r o → Came seen r (came o (state_at p tried met)) (spent met) p p
told_at seen (Ok x) o p tried met is = (is, stands-still p tried met)
told_at seen (Err (halts.Refused r)) o p tried met is = (is, stands-still p tried met)
told_at seen (Err halts.Memory) o p tried met is = tt

pub acts-tells : {T A : Type 0} (seen : T → A) (r : Result T RunError) (o : Outcome A) (p : Point) → IsOutcome seen r o → Performs seen r (tells o) p p
acts-tells {T} {A} seen r o p is = record {
  came = λ tried met. subst (λ (ran : Ran A). Came seen r ran (spent met) p p) (sym (tells-came o (state_at p tried met))) (told_at seen r o p tried met is);
  back = kept-same p.tree p.tree refl;
  rises = omega arith;
}

pub acts-looks : {T A : Type 0} (seen : T → A) (r : Result T RunError) (said : Labelled → Outcome A) (p : Point)
    → IsOutcome seen r (said p.tree.tree) → Performs seen r (looks said) p p
acts-looks {T} {A} seen r said p is = record {
  came = λ tried met.
      subst (λ (ran : Ran A). Came seen r ran (spent met) p p) (sym (looks-came said (state_at p tried met))) (told_at seen r (said p.tree.tree) p tried met is);
  back = kept-same p.tree p.tree refl;
  rises = omega arith;
}

refusal_outcome : {T A : Type 0} (seen : T → A) (e : RunError) (path : Path) (by : Rule) → IsRefusal e path by → IsOutcome {T = T} seen (Err e) (refuse path by)
refusal_outcome seen halts.Memory path by is = tt
refusal_outcome {T} {A} seen (halts.Refused r) path by is = subst (λ (q : Refusal). refuse {A = A} path by ≡ Err (refused_as q)) (sym is) refl

pub acts-refuses : {T A : Type 0} (seen : T → A) (e : RunError) (path : Path) (by : Rule) (p : Point) → IsRefusal e path by
    → Performs {T = T} {A = A} seen (Err e) (refuses path by) p p
acts-refuses {T} seen e path by p is = acts-tells {T = T} seen (Err e) (refuse path by) p (refusal_outcome {T = T} seen e path by is)

-- A node.

pub acts-node : {T A : Type 0} (seen : T → A) (r : Result T RunError) (frame : Path) (x : Answer) (n : NodeNo) (f : NodeNo → Act A) (a b : Point) → x ≡ node n
    → Performs seen r (f n) a b → Performs seen r (on_node frame x f) a b
acts-node seen r frame x n f a b is did = subst (λ y. Performs seen r (on_node frame y f) a b) (sym is) did

pub acts-no-node : {T A : Type 0} (seen : T → A) (e : RunError) (frame : Path) (x : Answer) (f : NodeNo → Act A) (p : Point)
    → IsNodeIn (Err e) x frame → Performs {T = T} seen (Err e) (on_node frame x f) p p
acts-no-node {T} seen e frame (node n) f p is = cc
acts-no-node {T} seen e frame (plain v) f p is = acts-refuses {T = T} seen e frame rule.Kind p is.1
acts-no-node {T} seen e frame (several xs) f p is = acts-refuses {T = T} seen e frame rule.Kind p is.1

-- Blocks that are tried, and all or nothing.

pub acts-tried : {T A : Type 0} (seen : T → A) (x : T) (other : Refused → Act A) (act : Act A) (a b : Point) → Performs seen (Ok x) act a b
    → Performs seen (Ok x) (or_else other act) a b
acts-tried {T} {A} seen x other act a b did = record {
  came = λ tried met.
      let s : State = state_at a tried met in
      let t : State = (act s).state in
      let h = did.came tried met in
      subst (λ (ran : Ran A). Came seen (Ok x) ran (spent met) a b) (sym (tried-came other act s t (seen x) (ap (λ o. came o t) h.0))) (refl, h.1);
  back = did.back;
  rises = did.rises;
}

pub acts-rescued : {T U A : Type 0} (seen : T → A) (then_seen : U → A) (e : Refusal) (r : Result U RunError) (other : Refused → Act A) (act : Act A) (a b c : Point)
    → Performs {T = T} seen (Err (halts.Refused e)) act a b → Performs then_seen r (other (refused_as e)) b c → Performs then_seen r (or_else other act) a c
acts-rescued {T} {U} {A} seen then_seen e r other act a b c first second = record {
  came = λ tried met.
      let s : State = state_at a tried met in
      let t : State = (act s).state in
      let h = first.came tried met in
      let same : state_at b t.tried t.met ≡ t = same_state b (spent met) a t h.1 in
      let k : Came then_seen r (other (refused_as e) t) (spent t.met) b c =
      subst (λ (u : State). Came then_seen r (other (refused_as e) u) (spent t.met) b c) same (second.came t.tried t.met) in
      subst (λ (ran : Ran A). Came then_seen r ran (spent met) a c) (sym (tried-refused other act s t (refused_as e) (ap (λ o. came o t) h.0)))
      (came_on then_seen r (other (refused_as e) t) a b c (spent met) t h.1 k);
  back = kept-together a.tree b.tree c.tree first.back second.back;
  rises = let h = first.rises in let k = second.rises in omega arith;
}

pub acts-kept : {T A : Type 0} (seen : T → A) (x : T) (act : Act A) (a b : Point) → Performs seen (Ok x) act a b → Performs seen (Ok x) (all_or_nothing act) a b
acts-kept {T} {A} seen x act a b did = record {
  came = λ tried met.
      let s : State = state_at a tried met in
      let t : State = (act s).state in
      let h = did.came tried met in
      subst (λ (ran : Ran A). Came seen (Ok x) ran (spent met) a b) (sym (atomic-came act s t (seen x) (ap (λ o. came o t) h.0))) (refl, h.1);
  back = did.back;
  rises = did.rises;
}

pub acts-taken-back : {T A : Type 0} (seen : T → A) (e : RunError) (act : Act A) (a b : Point)
    → Performs {T = T} seen (Err e) act a b → Performs {T = T} seen (Err e) (all_or_nothing act) a (back_at a b)
acts-taken-back {T} seen halts.Memory act a b did = record {
  came = λ tried met. tt;
  back = record { calls = []; edited = tt; joined = refl; led = refl; later = did.back.later };
  rises = did.rises;
}
acts-taken-back {T} {A} seen (halts.Refused r) act a b did = record {
  came = λ tried met.
      let s : State = state_at a tried met in
      let t : State = (act s).state in
      let h = did.came tried met in
      let back : Stands a (back_at a b) (spent met) (taken_back a.tree t) = record { tree = ap (given_back a.tree) h.1.tree; counted = h.1.counted; ticks = h.1.ticks } in
      subst (λ (ran : Ran A). Came {T = T} seen (Err (halts.Refused r)) ran (spent met) a (back_at a b))
      (sym (atomic-refused act s t (refused_as r) (ap (λ o. came o t) h.0))) (refl, back);
  back = record { calls = []; edited = tt; joined = refl; led = refl; later = did.back.later };
  rises = did.rises;
}
