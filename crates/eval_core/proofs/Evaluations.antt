-- Evaluating keeps each relation that outcomes, looks, counting, asking and going on keep.
use Rattle.std.proofs.Common.{◌≡◌, ℕ, List, [], ◌∷◌, Bool, true, false, Option, Some, None, Result, Ok, Err, if◌then◌else◌, refl, subst}
use Rattle.std.specs.Prelude.{IfOk, codes}
use Rattle.std.specs.Str.{bytes_eq}
use Rattle.snap_core.specs.Value.{Value, null, boolean}
use Rattle.snap_core.specs.declared.number.NodeNo.{NodeNo}
use Rattle.pointer_core.specs.declared.refusal.Rule.{Rule}
use Rattle.expr_syntax.specs.Syntax.{Expression, Expressions, Members, Telling, collect, keys, items, snapshot, path, constant, variable, own, get, ref, one_sided, two_sided, telling, walk, both, either, choice, bind, list, make, find, is, no_more, more, no_members, member}
use Rattle.eval_core.specs.Answer.{Answer, AnswerList, plain, several, no_answers, answer}
use Rattle.eval_core.specs.Run.{Eval, andthen}
use Rattle.eval_core.specs.Scope.{Env, bound_in}
use Rattle.eval_core.specs.Operating.{truth_in}
use Rattle.eval_core.specs.Walking.{Item, start}
use Rattle.eval_core.specs.Making.{Made}
use Rattle.eval_core.specs.Evaluating.{counted, truth, truth_of, bound_answer, told, evaluated, all_evaluated, members_evaluated}
use Rattle.eval_core.specs.Pairing.{Pairing, left_scope, right_scope, InAnswer, InAnswers, InEnv, Anything}
use Rattle.eval_core.proofs.Steps
use Rattle.eval_core.proofs.Steps.{judging, choosing, going_on}
use Rattle.eval_core.proofs.Readings
use Rattle.eval_core.proofs.Readings.{plainly, none, getting, referring, owning, finding, being_model}
use Rattle.eval_core.proofs.Operators.{operating, bounding}
use Rattle.eval_core.proofs.Walks.{InItems, walking, walking_over, start-good}
use Rattle.eval_core.proofs.Makings.{InMade, making, snapping}

-- an expression is counted, and what it gives is bounded
counting : (p : Pairing) (e f : Eval Answer) → Steps.ArePaired p e f → Steps.ArePaired p (counted (left_scope p) e) (counted (right_scope p) f)
counting p e f h =
    p.thens (Unit {0}) Answer Anything (InAnswer p.Good) _ _ _ _ p.counting (λ one any. going_on p e f _ _ h (λ x good. bounding p x good))

truth-any : (x : Answer) → IfOk (truth_in x) Anything
truth-any x = by_outcome (truth_in x)
  where
    by_outcome : (o : Result Bool Rule) → IfOk o Anything
    by_outcome (Ok b) = tt
    by_outcome (Err rule) = tt

being_true : (p : Pairing) (x : Answer) → p.Rel Bool Anything (truth (left_scope p) x) (truth (right_scope p) x)
being_true p x = judging p Bool Anything (truth_in x) (truth-any x)

true_of : (p : Pairing) (e f : Eval Answer) → Steps.ArePaired p e f → Steps.ArePaired p (truth_of (left_scope p) e) (truth_of (right_scope p) f)
true_of p e f h = going_on p e f _ _ h (λ x good. p.thens Bool Answer Anything (InAnswer p.Good) _ _ _ _ (being_true p x) (λ b any. plainly p (boolean b)))

-- one of two evaluations, by a truth
by_truth : (p : Pairing) (x : Answer) (e f then_e then_f : Eval Answer) → Steps.ArePaired p e then_e → Steps.ArePaired p f then_f
    → Steps.ArePaired p (andthen (truth (left_scope p) x) (λ t. if t then e else f)) (andthen (truth (right_scope p) x) (λ t. if t then then_e else then_f))
by_truth p x e f then_e then_f h k =
    p.thens Bool Answer Anything (InAnswer p.Good) _ _ _ _ (being_true p x) (λ t any. choosing p Answer (InAnswer p.Good) t e f then_e then_f h k)

-- what is bound
bound-good : (Good : NodeNo → Type 0) (x : List ℕ) (env : Env) → InEnv Good env → (y : Answer) → bound_in x env ≡ Some y → InAnswer Good y
bound-good Good x [] good y h = cc
bound-good Good x (b ∷ bs) good y h = by_test (bytes_eq x b.0) (λ g. bound-good Good x bs good.1 y g) h
  where
    by_test : (c : Bool) → (bound_in x bs ≡ Some y → InAnswer Good y) → (if c then Some b.1 else bound_in x bs) ≡ Some y → InAnswer Good y
    by_test true further g = let same : b.1 ≡ y = cc in subst (InAnswer Good) same good.0
    by_test false further g = further g

binding : (p : Pairing) (o : Option Answer) → ((y : Answer) → o ≡ Some y → InAnswer p.Good y)
    → Steps.ArePaired p (bound_answer (left_scope p) o) (bound_answer (right_scope p) o)
binding p (Some x) good = Steps.given p Answer (InAnswer p.Good) x (good x refl)
binding p None good = none p Rule.Kind

telling_of : (p : Pairing) (t : Telling) (x : Answer) → InAnswer p.Good x → Steps.ArePaired p (told (left_scope p) t x) (told (right_scope p) t x)
telling_of p keys x good = Readings.keys p x good
telling_of p items x good =
    p.thens (List Item) Answer (InItems p.Good) (InAnswer p.Good) _ _ _ _ (walking p x good)
    (λ is in_them. walking_over p collect _ _ is (start collect) (λ y fine. Steps.given p Answer (InAnswer p.Good) y fine) in_them tt)
telling_of p snapshot x good = p.thens Value Answer Anything (InAnswer p.Good) _ _ _ _ (snapping p x good) (λ v any. plainly p v)
telling_of p path x good = Readings.path p x good

mutual
  pub evaluating : (p : Pairing) (e : Expression) (env : Env) → InEnv p.Good env
      → Steps.ArePaired p (evaluated (left_scope p) e env) (evaluated (right_scope p) e env)
  evaluating p (constant v) env good = counting p _ _ (plainly p v)
  evaluating p (variable x) env good = counting p _ _ (binding p (bound_in x env) (bound-good p.Good x env good))
  evaluating p (own name) env good = counting p _ _ (owning p name (bound_in (codes "self") env) (bound-good p.Good (codes "self") env good))
  evaluating p (get e name) env good = counting p _ _ (going_on p _ _ _ _ (evaluating p e env good) (λ x fine. getting p name x fine))
  evaluating p (ref e name) env good = counting p _ _ (going_on p _ _ _ _ (evaluating p e env good) (λ x fine. referring p name x fine))
  evaluating p (one_sided op e) env good = counting p _ _ (going_on p _ _ _ _ (evaluating p e env good) (λ x fine. operating p op x (plain null) fine))
  evaluating p (two_sided op a b) env good =
      counting p _ _ (going_on p _ _ _ _ (evaluating p a env good) (λ x fine. going_on p _ _ _ _ (evaluating p b env good) (λ y also. operating p op x y fine)))
  evaluating p (telling t e) env good = counting p _ _ (going_on p _ _ _ _ (evaluating p e env good) (λ x fine. telling_of p t x fine))
  evaluating p (walk w e x b) env good =
      counting p _ _ (going_on p _ _ _ _ (evaluating p e env good) (λ y fine.
      p.thens (List Item) Answer (InItems p.Good) (InAnswer p.Good) _ _ _ _ (walking p y fine) (λ is in_them.
      walking_over p w _ _ is (start w) (λ z item. evaluating p b ((x, z) ∷ env) (item, good)) in_them (start-good p.Good w))))
  evaluating p (both a b) env good =
      counting p _ _ (going_on p _ _ _ _ (evaluating p a env good) (λ x fine.
      by_truth p x _ _ _ _ (true_of p _ _ (evaluating p b env good)) (plainly p (boolean false))))
  evaluating p (either a b) env good =
      counting p _ _ (going_on p _ _ _ _ (evaluating p a env good) (λ x fine.
      by_truth p x _ _ _ _ (plainly p (boolean true)) (true_of p _ _ (evaluating p b env good))))
  evaluating p (choice c a b) env good =
      counting p _ _ (going_on p _ _ _ _ (evaluating p c env good) (λ x fine.
      by_truth p x _ _ _ _ (evaluating p a env good) (evaluating p b env good)))
  evaluating p (bind x e b) env good = counting p _ _ (going_on p _ _ _ _ (evaluating p e env good) (λ y fine. evaluating p b ((x, y) ∷ env) (fine, good)))
  evaluating p (list es) env good =
      counting p _ _ (p.thens AnswerList Answer (InAnswers p.Good) (InAnswer p.Good) _ _ _ _ (evaluating_all p es env good)
      (λ xs fine. Steps.given p Answer (InAnswer p.Good) (several xs) fine))
  evaluating p (make ms) env good =
      counting p _ _ (p.thens (List Made) Answer (InMade p.Good) (InAnswer p.Good) _ _ _ _ (evaluating_members p ms env good) (λ xs fine. making p xs fine))
  evaluating p (find m e) env good = counting p _ _ (going_on p _ _ _ _ (evaluating p e env good) (λ x fine. finding p m x))
  evaluating p (is e m) env good = counting p _ _ (going_on p _ _ _ _ (evaluating p e env good) (λ x fine. being_model p m x fine))

  evaluating_all : (p : Pairing) (es : Expressions) (env : Env) → InEnv p.Good env
      → p.Rel AnswerList (InAnswers p.Good) (all_evaluated (left_scope p) es env) (all_evaluated (right_scope p) es env)
  evaluating_all p no_more env good = Steps.given p AnswerList (InAnswers p.Good) no_answers tt
  evaluating_all p (more e es) env good =
      p.thens Answer AnswerList (InAnswer p.Good) (InAnswers p.Good) _ _ _ _ (evaluating p e env good) (λ x fine.
      p.thens AnswerList AnswerList (InAnswers p.Good) (InAnswers p.Good) _ _ _ _ (evaluating_all p es env good)
      (λ xs also. Steps.given p AnswerList (InAnswers p.Good) (answer x xs) (fine, also)))

  evaluating_members : (p : Pairing) (ms : Members) (env : Env) → InEnv p.Good env
      → p.Rel (List Made) (InMade p.Good) (members_evaluated (left_scope p) ms env) (members_evaluated (right_scope p) ms env)
  evaluating_members p no_members env good = Steps.given p (List Made) (InMade p.Good) [] tt
  evaluating_members p (member k e ms) env good =
      p.thens Answer (List Made) (InAnswer p.Good) (InMade p.Good) _ _ _ _ (evaluating p e env good) (λ x fine.
      p.thens (List Made) (List Made) (InMade p.Good) (InMade p.Good) _ _ _ _ (evaluating_members p ms env good)
      (λ xs also. Steps.given p (List Made) (InMade p.Good) ((k, x) ∷ xs) (fine, also)))
