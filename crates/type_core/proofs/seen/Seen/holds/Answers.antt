use Rattle.std.proofs.Common.{◌∙◌}
use Rattle.type_core.proofs.SeenKeys.{among-keys, same}
use Rattle.type_core.proofs.seen.Seen.holds.Goals as goal

pub returns : goal.returns
returns c = rw c.self.view_is at (c.contains.ensures ∙ among-keys _ same c.args.key.now c.self.inside.keys.keys)
