use Rattle.expr_form.specs.declared.models.Target.TheVariants.{Other}
use Rattle.expr_form.proofs.Looking.{target_of-at, target_of-none}
use Rattle.expr_form.proofs.models.target_of.Goals as goal

pub returns-in-Some : goal.returns-in-Some
returns-in-Some c = target_of-at c.args.name.now c.args.types.now c.args.targets.now c.in-Some.at Other c.requires.keyed c.in-Some.ensures.within c.requires.each c.in-Some.ensures.key

pub returns-in-None : goal.returns-in-None
returns-in-None c = target_of-none c.args.name.now c.args.types.now c.args.targets.now c.in-None.ensures.found
