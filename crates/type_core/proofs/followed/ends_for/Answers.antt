use Rattle.type_core.proofs.Following.{themselves-behind}
use Rattle.type_core.proofs.followed.ends_for.Goals as goal

pub loop-t-init : goal.loop-t-init
loop-t-init c = themselves-behind c.args.table.now c.args.null c.in_ok-ends.ends c.in_ok-ends.ensures
