use Rattle.std.proofs.lemmas.Option.{slice_get_within}
use Rattle.type_core.proofs.Sound.{shape_at-own}
use Rattle.type_core.proofs.types.Types.model_type.Goals as goal

pub returns-clause-model : goal.returns-clause-model
returns-clause-model c = shape_at-own c.args.self.now c.args.m.0 _ c.model.ensures.sound c.model.ensures.model

pub returns-clause-known : goal.returns-clause-known
returns-clause-known c = slice_get_within _ _ _ (returns-clause-model c)
