-- The body is the one that was built.
use Rattle.host_replies.proofs.Statuses.{status_has_phrase}
use Rattle.host_replies.proofs.replies.refusal_reply.Goals as goal

pub reply-requires-clause-phrase : goal.reply-requires-clause-phrase
reply-requires-clause-phrase c = rw c.status.ensures (status_has_phrase c.args.refusal.now.rule)

pub returns : goal.returns
returns c = rw (c.in_ok-body.ensures, c.status.ensures) at c.reply.ensures
