use Rattle.live_tree.specs.Contents.{state}
use Rattle.expr_syntax.specs.Shown.{shown}
use Rattle.action_steps.specs.Doing.{point}
use Rattle.action_steps.specs.Acting.{behaving_of, env_of}
use Rattle.action_steps.proofs.Guarding.{guarded}
use Rattle.action_steps.proofs.layers.admits.Goals as goal

pub returns : goal.returns
returns g c = λ counted.
    let s = c.args.schema.now in
    let guard = c.args.guard.now in
    let tree = state c.args.tree.now in
    guarded (behaving_of s) guard.frame.now guard.node (shown guard.condition.now) (env_of c.in_ok-env.env) c.condition.result
    (point tree counted c.args.steps.now) (point tree counted c.condition.new.steps) (c.in_ok-env.ensures s.types) (c.condition.ensures counted)
