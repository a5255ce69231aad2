use Rattle.std.proofs.Common.{◌≡◌, None, rules, slice_get, sym}
use Rattle.model_syntax.specs.declared.behaviour.Behaviour.{Behaviour}
use Rattle.model_syntax.specs.Shown.{behaviour_shown}
use Rattle.expr_core.proofs.Lists.{parts_of-none}
use Rattle.expr_core.proofs.schema.Schema.middleware.Goals as goal

pub returns-in-None-clause-is : goal.returns-in-None-clause-is
returns-in-None-clause-is c =
    let none : slice_get c.self.inside.behaviours c.args.m.0 ≡ None = search rules in
    rw (← c.self.view_is) (sym (parts_of-none (λ (b : Behaviour). (behaviour_shown b).middleware) c.self.inside.behaviours c.args.m.0 none))

pub returns-in-Some-clause-plain : goal.returns-in-Some-clause-plain
returns-in-Some-clause-plain c = rw (← c.self.view_is) c.self.invariant.plain_conditions

pub returns-in-None-clause-plain : goal.returns-in-None-clause-plain
returns-in-None-clause-plain c = rw (← c.self.view_is) c.self.invariant.plain_conditions
