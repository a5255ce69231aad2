-- The body is the one that was built.
use Rattle.host_replies.proofs.Statuses.{status_has_phrase}
use Rattle.host_replies.proofs.replies.rule_reply.Goals as goal

pub reply-requires-clause-phrase : goal.reply-requires-clause-phrase
reply-requires-clause-phrase c = rw c.status.ensures (status_has_phrase c.args.rule.now)

pub returns : goal.returns
returns c = rw (c.in_ok-body.ensures, c.status.ensures) at c.reply.ensures
