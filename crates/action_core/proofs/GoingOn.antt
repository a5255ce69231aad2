-- What a request tried, met and counted only grows.
use Rattle.std.proofs.Common.{◌≡◌, ℕ, suc, ◌≤◌, List, [], ◌∷◌, ◌++◌, true, Option, Some, None, Result, Ok, Err, refl, sym, ap, ◌∙◌, arith, append_assoc, append-nil}
use Rattle.std.specs.Prelude.{IfOk, IfSome, nat_lt}
use Rattle.std.proofs.lemmas.Bool.Decides.{nat_tests}
use Rattle.expr_syntax.specs.Syntax.{Expressions, Statement, Statements, no_more, more, set, put, push, insert, replace, drop, clear, apply, each, call, attempt, throw, done, run}
use Rattle.model_syntax.specs.Shown.{ShownAction}
use Rattle.eval_core.specs.Answer.{AnswerList, no_answers, answer}
use Rattle.eval_core.specs.Asking.{bound_at}
use Rattle.eval_core.specs.Pairing.{Anything}
use Rattle.eval_core.specs.Scope.{Env}
use Rattle.action_core.specs.Act.{State, root_of}
use Rattle.action_core.specs.Behaving.{Behaving, sight_in, most_statements}
use Rattle.action_core.specs.Keeping.{Keeping, EachFine, AreFine, IsFineEnv}
use Rattle.plain_answers.specs.EachExpression.{HoldsInEach, HoldsInStatement, HoldsInBlock}
use Rattle.action_core.specs.Laws.{GoesOn, RequestsGoOn}
use Rattle.action_core.proofs.Kept.{called_kept}

-- Nothing is asked of answers, expressions and states.

fine : (xs : AnswerList) → AreFine Anything xs
fine no_answers = tt
fine (answer x xs) = (tt, fine xs)

fine_env : (env : Env) → IsFineEnv Anything env
fine_env [] = tt
fine_env (b ∷ bs) = (tt, fine_env bs)

each_good : (es : Expressions) → HoldsInEach Anything es
each_good no_more = tt
each_good (more e es) = (tt, each_good es)

mutual
  good : (st : Statement) → HoldsInStatement Anything st
  good (set e p v) = (tt, tt)
  good (put e k v) = (tt, tt, tt)
  good (push e v) = (tt, tt)
  good (insert e i v) = (tt, tt, tt)
  good (replace e i v) = (tt, tt, tt)
  good (drop e k) = (tt, tt)
  good (clear e) = tt
  good (apply e v) = (tt, tt)
  good (Statement.bind x e) = tt
  good (Statement.choice c a b) = (tt, all_good a, all_good b)
  good (each e x b) = (tt, all_good b)
  good (call e name es) = (tt, each_good es)
  good (attempt a b) = (all_good a, all_good b)
  good (throw reason) = tt

  all_good : (sts : Statements) → HoldsInBlock Anything sts
  all_good done = tt
  all_good (run st sts) = (good st, all_good sts)

ok : {A E : Type 0} (P : A → Type 0) → ((x : A) → P x) → (o : Result A E) → IfOk o P
ok P h (Ok x) = h x
ok P h (Err e) = tt

some : {A : Type 0} (P : A → Type 0) → ((x : A) → P x) → (o : Option A) → IfSome o P
some P h (Some x) = h x
some P h None = tt

each_fine : (xs : _) → EachFine Anything xs
each_fine [] = tt
each_fine (x ∷ xs) = (tt, each_fine xs)

-- Growing.

grown : {A : Type 0} (xs ys zs more_ys more_zs : List A) → ys ≡ xs ++ more_ys → zs ≡ ys ++ more_zs → zs ≡ xs ++ (more_ys ++ more_zs)
grown xs ys zs more_ys more_zs first next = next ∙ ap (λ ws. ws ++ more_zs) first ∙ append_assoc xs more_ys more_zs

itself : (s : State) → GoesOn s s
itself s = record { tried = ([], sym (append-nil s.tried)); met = ([], sym (append-nil s.met)); counted = omega arith; within = λ h. h }

joined : (a b c : State) → GoesOn a b → GoesOn b c → GoesOn a c
joined a b c first next = record {
  tried = (first.tried.0 ++ next.tried.0, grown a.tried b.tried c.tried first.tried.0 next.tried.0 first.tried.1 next.tried.1);
  met = (first.met.0 ++ next.met.0, grown a.met b.met c.met first.met.0 next.met.0 first.met.1 next.met.1);
  counted = omega (arith, first.counted, next.counted);
  within = λ h. next.within (first.within h);
}

below : (n : ℕ) → nat_lt n most_statements ≡ true → suc n ≤ most_statements
below n e = grind (arith, nat_tests)

going : Behaving → Keeping
going behaving = record {
  behaving = behaving;
  Rel = GoesOn;
  Fit = Anything;
  Fine = Anything;
  Good = Anything;
  actions = λ m name. some _ (λ (a : ShownAction). all_good a.body) (behaving.action_of m name);
  stays = itself;
  goes_on = joined;
  evaluates = λ s fit e good env well before. ok Anything (λ x. tt) _;
  walks = λ s fit x well before. ok (EachFine Anything) each_fine _;
  binds = λ s fit callee well action. ok (IsFineEnv Anything) fine_env _;
  bound = λ s fit n. fine_env (bound_at (sight_in behaving (root_of s)) n);
  meets = λ A run s fit. (tt, record { tried = ([], sym (append-nil s.tried)); met = (_, refl); counted = omega arith; within = λ h. h });
  counting = λ s fit e. (tt, record { tried = ([], sym (append-nil s.tried)); met = ([], sym (append-nil s.met)); counted = omega arith; within = λ h. below s.counted e });
  writing = λ target how s c fit well e. (tt, record { tried = (_, refl); met = ([], sym (append-nil s.met)); counted = omega arith; within = λ h. h });
  backing = λ earlier now began fit led. (tt, record { tried = led.tried; met = led.met; counted = led.counted; within = led.within });
}

pub requests-go-on : RequestsGoOn
unfolding going
requests-go-on behaving room running callee s = (called_kept (going behaving) room running callee (fine callee.given) s tt).rel
