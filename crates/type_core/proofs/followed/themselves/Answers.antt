use Rattle.type_core.proofs.Following.{AreThemselves-none, AreThemselves-more}
use Rattle.type_core.proofs.followed.themselves.Goals as goal

pub loop-t-init : goal.loop-t-init
loop-t-init c = rw c.new-ends.ensures AreThemselves-none

pub loop-t-preserved : goal.loop-t-preserved
loop-t-preserved c = rw c.in_ok-push.ensures.ok (AreThemselves-more c.loop-t.ends c.loop-t.t c.loop-t.invariant)

pub returns : goal.returns
returns c = c.loop-t.invariant.each
