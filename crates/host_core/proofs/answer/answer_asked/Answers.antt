use Rattle.std.proofs.Common.{refl}
use Rattle.pointer_core.specs.declared.refusal.Rule.TheVariants.{Unknown}
use Rattle.route_core.specs.Ask.{unknown, wrong}
use Rattle.host_replies.specs.Replies.{rule_reply, method_reply}
use Rattle.host_core.specs.Asking.{AnswersAsked}
use Rattle.host_core.specs.Inside.{closes, held_docs, visit_of}
use Rattle.host_core.proofs.Replying.{same-by}
use Rattle.host_core.proofs.answer.answer_asked.Goals as goal

pub returns-in-Unknown-clause-answer : goal.returns-in-Unknown-clause-answer
returns-in-Unknown-clause-answer c =
    let docs = held_docs c.args.docs.now.items in
    rw c.in-Unknown.is (same-by (closes c.args.visit.now) (AnswersAsked (visit_of c.args.visit.now) unknown docs) docs (rule_reply Unknown) c.rule_reply.result refl c.rule_reply.ensures)

pub returns-in-Wrong-clause-answer : goal.returns-in-Wrong-clause-answer
returns-in-Wrong-clause-answer c =
    let docs = held_docs c.args.docs.now.items in
    rw c.in-Wrong.is (same-by (closes c.args.visit.now) (AnswersAsked (visit_of c.args.visit.now) (wrong c.in-Wrong.allow.now) docs) docs (method_reply c.in-Wrong.allow.now)
    c.method_reply.result refl c.method_reply.ensures)
