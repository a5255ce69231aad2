-- What holds of answers and of what is seen.
use Rattle.std.specs.Prelude.{ℕ, IfOk}
use Rattle.snap_core.specs.Value.{IsPlain}
use Rattle.snap_core.specs.declared.number.NodeNo.{NodeNo}
use Rattle.edit_core.specs.Labelled.{Labelled, bare}
use Rattle.expr_syntax.specs.declared.number.ViewNo.{ViewNo}
use Rattle.expr_syntax.specs.Syntax.{Expression}
use Rattle.eval_core.specs.Sight.{Sight}
use Rattle.eval_core.specs.Scope.{Viewing, Env}
use Rattle.eval_core.specs.Evaluating.{evaluated}
use Rattle.eval_core.specs.Asking.{Stack, asked, frame_scope}
use Rattle.eval_core.specs.Seen.{Seeing, sight_of}
use Rattle.plain_answers.specs.Plainness.{IsPlainAnswer, IsPlainEnv, IsPlainSight, HasPlainConstants, HasPlainBodies}

-- Whatever is evaluated and ends well gives a plain answer: a view that is asked of a node, and an expression in a
-- statement or a condition.
pub record GivePlainAnswers (viewing : Viewing) (sight : Sight) : Type 0 where
  pub views : (room : ℕ) (stack : Stack) (n : NodeNo) (v : ViewNo) (before : ℕ) → IfOk (asked viewing sight room stack n v before).outcome IsPlainAnswer
  pub expressions : (e : Expression) (env : Env) (before : ℕ) → HasPlainConstants e → IsPlainEnv env
      → IfOk (evaluated (frame_scope viewing sight) e env before).outcome IsPlainAnswer

abbrev pub AnswersArePlain : Type 0
AnswersArePlain = (viewing : Viewing) (sight : Sight) → HasPlainBodies viewing → IsPlainSight sight → GivePlainAnswers viewing sight

-- What is seen of a plain labelled snapshot is plain.
abbrev pub SightsArePlain : Type 0
SightsArePlain = (seeing : Seeing) (x : Labelled) → IsPlain (bare x) → IsPlainSight (sight_of seeing x)
