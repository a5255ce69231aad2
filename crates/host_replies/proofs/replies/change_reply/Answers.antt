use Rattle.snap_core.specs.View.{view}
use Rattle.host_replies.proofs.PlainBodies.{change_plain}
use Rattle.host_replies.proofs.replies.change_reply.Goals as goal

pub reply-requires-clause-plain : goal.reply-requires-clause-plain
reply-requires-clause-plain c = change_plain c.args.patches.now (view c.in-Ok.body) c.in-Ok.ensures.body c.requires
