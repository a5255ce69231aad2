use Rattle.expr_syntax.specs.Shown.{shown}
use Rattle.view_engine.specs.Asks.{items_evaluated}
use Rattle.action_steps.specs.Acting.{env_of}
use Rattle.action_steps.proofs.Framed.{evaluates-in}
use Rattle.action_steps.proofs.parts.walked_items.Goals as goal

pub returns : goal.returns
returns g c =
    evaluates-in c.args.acting.now c.args.tree.now (λ s. items_evaluated s (shown c.args.e.now) (env_of c.args.env.now)) c.items-given.result _ _ _ _
    c.items-given.ensures.answer c.items-given.ensures.counted c.items-given.ensures.ticks
