-- The body is the one that was built.
use Rattle.snap_core.specs.View.{view}
use Rattle.host_replies.proofs.PlainBodies.{refused_change_plain}
use Rattle.host_replies.proofs.Statuses.{status_has_phrase}
use Rattle.host_replies.proofs.replies.refused_change_reply.Goals as goal

pub reply-requires-clause-plain : goal.reply-requires-clause-plain
reply-requires-clause-plain c =
    refused_change_plain c.args.refusal.now.rule c.args.refusal.now.path c.args.patches.now (view c.in-Ok.body) c.in-Ok.ensures.body c.requires

pub reply-requires-clause-phrase : goal.reply-requires-clause-phrase
reply-requires-clause-phrase c = rw c.status.ensures (status_has_phrase c.args.refusal.now.rule)
