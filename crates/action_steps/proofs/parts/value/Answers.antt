use Rattle.expr_syntax.specs.Shown.{shown}
use Rattle.answer_ops.specs.View.{answer_of}
use Rattle.eval_core.specs.Evaluating.{evaluated}
use Rattle.action_steps.specs.Acting.{env_of}
use Rattle.action_steps.proofs.Evaluations.{parts-act}
use Rattle.action_steps.proofs.parts.value.Goals as goal

pub returns-clause-did : goal.returns-clause-did
returns-clause-did g c = λ n.
    parts-act answer_of c.part.result c.args.acting.now c.args.tree.now (λ s. evaluated s (shown c.args.e.now) (env_of c.args.env.now)) n _ _ _ c.part.ensures.did

pub returns-clause-plain : goal.returns-clause-plain
returns-clause-plain g c = c.part.ensures.plain c.requires.constants c.requires.bound
