-- Evaluating: what each form gives, in the order in which its parts are evaluated.
use Rattle.std.specs.Prelude.{List, [], ◌∷◌, Bool, false, true, codes, Option, Some, None, if◌then◌else◌}
use Rattle.snap_core.specs.Value.{null, boolean}
use Rattle.pointer_core.specs.declared.refusal.Rule.{Rule}
use Rattle.expr_syntax.specs.Syntax.{Expression, Expressions, Members, Telling, collect, keys, items, snapshot, path, constant, variable, own, get, ref, one_sided, two_sided, telling, walk, both, either, choice, bind, list, make, find, is, no_more, more, no_members, member}
use Rattle.eval_core.specs.Answer.{Answer, AnswerList, plain, several, no_answers, answer}
use Rattle.eval_core.specs.Run.{Eval, counts, andthen}
use Rattle.eval_core.specs.Scope.{Scope, Env, bound_in, gives, refused, judged}
use Rattle.eval_core.specs.Operating.{in_bounds, truth_in}
use Rattle.eval_core.specs.Reading.{operate, got, ref_got, own_got, keys_got, path_got, find_got, is_got}
use Rattle.eval_core.specs.Walking.{walked, walk_over, start}
use Rattle.eval_core.specs.Making.{Made, record_made, snapshot_of}

-- An expression is counted before its parts; what it gives is a result, or outside the values.
abbrev pub counted : Scope → Eval Answer → Eval Answer
counted s inner = andthen (counts s.here) (λ _. andthen inner (λ x. judged s (in_bounds x)))

-- what is evaluated is a truth
abbrev pub truth : Scope → Answer → Eval Bool
truth s x = judged s (truth_in x)

abbrev pub truth_of : Scope → Eval Answer → Eval Answer
truth_of s inner = andthen inner (λ x. andthen (truth s x) (λ b. gives (plain (boolean b))))

abbrev pub bound_answer : Scope → Option Answer → Eval Answer
bound_answer s (Some x) = gives x
bound_answer s None = refused s Rule.Kind

abbrev pub told : Scope → Telling → Answer → Eval Answer
told s keys x = keys_got s x
told s items x = andthen (walked s x) (λ is. walk_over s collect (λ y. gives y) is (start collect))
told s snapshot x = andthen (snapshot_of s x) (λ v. gives (plain v))
told s path x = path_got s x

abbrev mutual
  pub evaluated : Scope → Expression → Env → Eval Answer
  evaluated s (constant v) env = counted s (gives (plain v))
  evaluated s (variable x) env = counted s (bound_answer s (bound_in x env))
  evaluated s (own p) env = counted s (own_got s p (bound_in (codes "self") env))
  evaluated s (get e p) env = counted s (andthen (evaluated s e env) (got s p))
  evaluated s (ref e p) env = counted s (andthen (evaluated s e env) (ref_got s p))
  evaluated s (one_sided op e) env = counted s (andthen (evaluated s e env) (λ x. operate s op x (plain null)))
  evaluated s (two_sided op a b) env = counted s (andthen (evaluated s a env) (λ x. andthen (evaluated s b env) (operate s op x)))
  evaluated s (telling t e) env = counted s (andthen (evaluated s e env) (told s t))
  evaluated s (walk w e x b) env =
      counted s (andthen (evaluated s e env) (λ y. andthen (walked s y) (λ is. walk_over s w (λ z. evaluated s b ((x, z) ∷ env)) is (start w))))
  evaluated s (both a b) env =
      counted s (andthen (evaluated s a env) (λ x. andthen (truth s x) (λ t. if t then truth_of s (evaluated s b env) else gives (plain (boolean false)))))
  evaluated s (either a b) env =
      counted s (andthen (evaluated s a env) (λ x. andthen (truth s x) (λ t. if t then gives (plain (boolean true)) else truth_of s (evaluated s b env))))
  evaluated s (choice c a b) env =
      counted s (andthen (evaluated s c env) (λ x. andthen (truth s x) (λ t. if t then evaluated s a env else evaluated s b env)))
  evaluated s (bind x e b) env = counted s (andthen (evaluated s e env) (λ y. evaluated s b ((x, y) ∷ env)))
  evaluated s (list es) env = counted s (andthen (all_evaluated s es env) (λ xs. gives (several xs)))
  evaluated s (make ms) env = counted s (andthen (members_evaluated s ms env) (λ xs. judged s (record_made s.sight xs)))
  evaluated s (find m e) env = counted s (andthen (evaluated s e env) (find_got s m))
  evaluated s (is e m) env = counted s (andthen (evaluated s e env) (is_got s m))

  pub all_evaluated : Scope → Expressions → Env → Eval AnswerList
  all_evaluated s no_more env = gives no_answers
  all_evaluated s (more e es) env = andthen (evaluated s e env) (λ x. andthen (all_evaluated s es env) (λ xs. gives (answer x xs)))

  pub members_evaluated : Scope → Members → Env → Eval (List Made)
  members_evaluated s no_members env = gives []
  members_evaluated s (member k e ms) env = andthen (evaluated s e env) (λ x. andthen (members_evaluated s ms env) (λ xs. gives ((k, x) ∷ xs)))
