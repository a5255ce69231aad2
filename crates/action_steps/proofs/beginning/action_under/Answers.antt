use Rattle.std.proofs.Common.{ap, sym, ◌∙◌}
use Rattle.std.specs.Option.{option_and_then}
use Rattle.expr_core.specs.Schema.{action_at}
use Rattle.action_core.specs.Beginning.{action_under}
use Rattle.action_steps.specs.Acting.{behaving_of}
use Rattle.action_steps.proofs.Standing.{action-found}
use Rattle.action_steps.proofs.beginning.action_under.Goals as goal

pub returns-in-Model-clause-action : goal.returns-in-Model-clause-action
returns-in-Model-clause-action c =
    let s = c.args.schema.now in
    ap (option_and_then (action_at s)) c.action.ensures.number ∙ action-found s c.in-Model.m c.args.name.now
    ∙ ap (action_under (behaving_of s) c.args.name.now) (sym c.in-Model.is)
