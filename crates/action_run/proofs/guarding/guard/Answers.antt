use Rattle.expr_syntax.specs.Shown.{shown}
use Rattle.action_steps.specs.Acting.{behaving_of}
use Rattle.action_run.proofs.Layered.{admitted-goes-on, not-admitted, condition-refused, guard-handed}
use Rattle.action_run.proofs.guarding.guard.Goals as goal

pub returns-in_err-admits : goal.returns-in_err-admits
returns-in_err-admits g c =
    λ inner counted. guard-handed (behaving_of c.args.within.now.schema.now) c.args.within.now.frame.now c.args.node (shown c.args.condition.now) inner c.in_err-admits.field-0.0 c.from_residual.result _ _ c.from_residual.ensures.1
    (condition-refused (behaving_of c.args.within.now.schema.now) c.args.within.now.frame.now c.args.node (shown c.args.condition.now) inner c.in_err-admits.field-0.0 _ _ (c.in_err-admits.ensures counted))

pub returns-then-branch : goal.returns-then-branch
returns-then-branch g c =
    λ inner counted. admitted-goes-on (behaving_of c.args.within.now.schema.now) c.args.within.now.frame.now c.args.node (shown c.args.condition.now) inner c.in_ok-admits.field-0 _ _ c.if-branch.true (c.in_ok-admits.ensures counted)

pub returns-else-branch : goal.returns-else-branch
returns-else-branch g c =
    λ inner counted. not-admitted (behaving_of c.args.within.now.schema.now) c.args.within.now.frame.now c.args.node (shown c.args.condition.now) inner c.in_ok-admits.field-0 c.refused.result _ _ c.if-branch.false (c.in_ok-admits.ensures counted) c.refused.ensures
