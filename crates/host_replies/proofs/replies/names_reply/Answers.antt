use Rattle.snap_core.specs.View.{view}
use Rattle.host_replies.proofs.PlainBodies.{names_plain}
use Rattle.host_replies.proofs.replies.names_reply.Goals as goal

pub reply-requires-clause-plain : goal.reply-requires-clause-plain
reply-requires-clause-plain c =
    names_plain _ c.args.names.items (view c.in_ok-list_of_texts.field-0) (view c.in_ok-body.body) c.in_ok-list_of_texts.ensures c.in_ok-body.ensures
