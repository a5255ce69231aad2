use Rattle.std.proofs.Common.{map}
use Rattle.expr_syntax.specs.Shown.{shown, expressions}
use Rattle.answer_ops.specs.View.{answer_of, answers_of}
use Rattle.eval_core.specs.Evaluating.{all_evaluated}
use Rattle.plain_answers.specs.Plainness.{ArePlainAnswers}
use Rattle.view_engine.proofs.Lists.{exprs_from}
use Rattle.view_engine.proofs.Loops.{point}
use Rattle.action_steps.specs.Acting.{env_of}
use Rattle.action_steps.specs.Parts.{scope_in, telling_in}
use Rattle.action_steps.proofs.PartsLeft.{parts_left, Leaves}
use Rattle.action_steps.proofs.parts.all_parts.Given as goal

abbrev pub invariant-loop-e : goal.invariant-loop-e
invariant-loop-e g l = record {
  left : Leaves (telling_in l.acting l.tree)
      (parts_left (scope_in l.acting l.tree) (env_of l.env) (exprs_from l.e-index l.es) (map answer_of l.values))
      (all_evaluated (scope_in l.acting l.tree) (expressions (map shown l.es)) (env_of l.env)) (point l.fn.counted l.fn.steps) (point l.counted l.steps);
  plain : ArePlainAnswers (answers_of l.values);
}
