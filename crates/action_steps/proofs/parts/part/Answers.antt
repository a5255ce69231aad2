use Rattle.expr_syntax.specs.Shown.{shown}
use Rattle.eval_core.specs.Evaluating.{evaluated}
use Rattle.action_steps.specs.Acting.{env_of}
use Rattle.action_steps.proofs.Framed.{evaluates-in, part-plain}
use Rattle.action_steps.proofs.parts.part.Goals as goal

pub returns-clause-did : goal.returns-clause-did
returns-clause-did g c =
    evaluates-in c.args.acting.now c.args.tree.now (λ s. evaluated s (shown c.args.e.now) (env_of c.args.env.now)) c.evaluate-given.result _ _ _ _
    c.evaluate-given.ensures.answer c.evaluate-given.ensures.counted c.evaluate-given.ensures.ticks

pub returns-clause-plain : goal.returns-clause-plain
returns-clause-plain g c =
    part-plain c.args.acting.now c.args.tree.now (shown c.args.e.now) (env_of c.args.env.now) c.evaluate-given.result c.args.counted.now
    c.values_are_plain.ensures.constants c.values_are_plain.ensures.value c.evaluate-given.ensures.answer
