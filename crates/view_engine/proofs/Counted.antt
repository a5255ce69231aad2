-- An expression is counted before anything of it is evaluated.
use Rattle.std.proofs.Common.{◌≡◌, refl}
use Rattle.expr_syntax.specs.Syntax.{Expression, constant, variable, own, get, ref, one_sided, two_sided, telling, walk, both, either, choice, bind, list, make, find, is}
use Rattle.eval_core.specs.Answer.{Answer}
use Rattle.eval_core.specs.Run.{Eval}
use Rattle.eval_core.specs.Scope.{Scope, Env}
use Rattle.eval_core.specs.Evaluating.{counted, evaluated}

pub record IsCounted (s : Scope) (eval : Eval Answer) : Type 0 where
  pub inner : Eval Answer
  pub is : eval ≡ counted s inner

pub evaluated-counted : (s : Scope) (e : Expression) (env : Env) → IsCounted s (evaluated s e env)
evaluated-counted s (constant v) env = record { inner = _; is = refl }
evaluated-counted s (variable x) env = record { inner = _; is = refl }
evaluated-counted s (own p) env = record { inner = _; is = refl }
evaluated-counted s (get e p) env = record { inner = _; is = refl }
evaluated-counted s (ref e p) env = record { inner = _; is = refl }
evaluated-counted s (one_sided op e) env = record { inner = _; is = refl }
evaluated-counted s (two_sided op a b) env = record { inner = _; is = refl }
evaluated-counted s (telling t e) env = record { inner = _; is = refl }
evaluated-counted s (walk w e x b) env = record { inner = _; is = refl }
evaluated-counted s (both a b) env = record { inner = _; is = refl }
evaluated-counted s (either a b) env = record { inner = _; is = refl }
evaluated-counted s (choice c a b) env = record { inner = _; is = refl }
evaluated-counted s (bind x e b) env = record { inner = _; is = refl }
evaluated-counted s (list es) env = record { inner = _; is = refl }
evaluated-counted s (make ms) env = record { inner = _; is = refl }
evaluated-counted s (find m e) env = record { inner = _; is = refl }
evaluated-counted s (is e m) env = record { inner = _; is = refl }
