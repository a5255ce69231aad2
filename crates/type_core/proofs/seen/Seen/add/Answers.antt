use Rattle.type_core.proofs.SeenKeys.{added-keys, same}
use Rattle.type_core.proofs.seen.Seen.add.Goals as goal

pub returns : goal.returns
returns c =
    rw c.self.view_is at (added-keys _ same c.args.key c.self.inside.keys.keys c.insert_full.new.self.keys c.in_ok-fresh.fresh c.in_ok-fresh.ensures.added c.in_ok-fresh.ensures.keys)
