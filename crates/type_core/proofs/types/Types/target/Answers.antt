use Rattle.std.proofs.Common.{◌∙◌}
use Rattle.type_core.proofs.Targets.{target-known, target-identified, target-none}
use Rattle.type_core.proofs.types.Types.target.Goals as goal

pub returns-clause-known : goal.returns-clause-known
returns-clause-known c = rw (c.target_of.ensures, c.table.ensures ∙ c.inside.ensures.types) (target-known c.args.self.now c.inside.ensures.sound c.args.t.0)

pub returns-clause-identified : goal.returns-clause-identified
returns-clause-identified c = rw (c.target_of.ensures, c.table.ensures ∙ c.inside.ensures.types) (target-identified c.args.self.now c.inside.ensures.sound c.args.t.0)

pub returns-clause-none : goal.returns-clause-none
returns-clause-none c = rw (c.target_of.ensures, c.table.ensures ∙ c.inside.ensures.types) (target-none c.args.self.now c.inside.ensures.sound c.args.t.0)
