use Rattle.type_core.proofs.Sound.{AreNamed-properties, AreTyped-properties}
use Rattle.type_core.proofs.types.Types.properties.Goals as goal

pub returns-clause-named : goal.returns-clause-named
returns-clause-named c = AreNamed-properties c.args.self.now c.args.m.0 _ c.model.ensures.sound c.model.ensures.model

pub returns-clause-typed : goal.returns-clause-typed
returns-clause-typed c = AreTyped-properties c.args.self.now c.args.m.0 _ c.model.ensures.sound c.model.ensures.model
