use Rattle.std.proofs.Common.{ap, ◌∙◌, arith}
use Rattle.host_replies.specs.Replies.{removed_reply}
use Rattle.host_core.specs.Docs.{without}
use Rattle.host_core.specs.Inside.{held_docs}
use Rattle.host_core.proofs.Holding.{stands-within, stands-removed}
use Rattle.host_core.proofs.AllHeld.{held-removed, discarded}
use Rattle.host_core.proofs.creating.discard_at.Goals as goal

pub remove-removed-requires : goal.remove-removed-requires
remove-removed-requires c = omega (arith, stands-within c.args.name.now c.args.at c.args.docs.now.items c.requires.stands, c.args.docs.now.ok.0)

pub returns-clause-answer : goal.returns-clause-answer
returns-clause-answer c =
    let docs = c.args.docs.now.items in (
      record { reply = removed_reply c.args.name.now; docs = without c.args.name.now (held_docs docs) },
      discarded c.args.name.now docs c.args.at c.requires.stands,
      c.in_ok-reply.ensures,
      ap held_docs c.remove-removed.ensures.items ∙ stands-removed c.args.name.now c.args.at docs c.requires.stands,
    )

pub returns-clause-held : goal.returns-clause-held
returns-clause-held c =
    held-removed c.args.visit.now.schema.now.types c.args.name.now c.args.docs.now.items c.remove-removed.new.self.items c.args.at c.requires.held c.requires.stands
    c.remove-removed.ensures.items
