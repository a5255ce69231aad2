-- A fact that holds of every node holds of all that is seen and answered.
use Rattle.std.proofs.Common.{List, [], ◌∷◌, Option, Some, None, Result, Ok, Err}
use Rattle.std.specs.Prelude.{IfOk}
use Rattle.snap_core.specs.declared.number.NodeNo.{NodeNo}
use Rattle.eval_core.specs.Answer.{Answer, AnswerList, plain, node, several, no_answers, answer}
use Rattle.eval_core.specs.Sight.{Held, holds, stands, refers, Entry}
use Rattle.eval_core.specs.Scope.{Env}
use Rattle.eval_core.specs.Run.{Fault}
use Rattle.eval_core.specs.Pairing.{InAnswer, InAnswers, InProp, InLevel, InFound, InEnv, Anything}

-- every node will do
abbrev pub Any : NodeNo → Type 0
Any n = Unit {0}

pub anything : {A : Type 0} (o : Result A Fault) → IfOk o Anything
anything (Ok x) = tt
anything (Err fault) = tt

any-held : (h : Held) → InProp Any (Some h)
any-held (holds v) = tt
any-held (stands n) = tt
any-held (refers link) = tt

pub any-prop : (o : Option Held) → InProp Any o
any-prop None = tt
any-prop (Some h) = any-held h

pub any-level : (es : List Entry) → InLevel Any es
any-level [] = tt
any-level (e ∷ es) = (any-held e.held, any-level es)

pub any-found : (o : Option NodeNo) → InFound Any o
any-found None = tt
any-found (Some n) = tt

mutual
  any-answer : (x : Answer) → InAnswer Any x
  any-answer (plain v) = tt
  any-answer (node n) = tt
  any-answer (several xs) = any-answers xs

  any-answers : (xs : AnswerList) → InAnswers Any xs
  any-answers no_answers = tt
  any-answers (answer x xs) = (any-answer x, any-answers xs)

pub any-env : (env : Env) → InEnv Any env
any-env [] = tt
any-env (b ∷ bs) = (any-answer b.1, any-env bs)

pub in_any : (o : Result Answer Fault) → IfOk o (InAnswer Any)
in_any (Ok x) = any-answer x
in_any (Err fault) = tt
