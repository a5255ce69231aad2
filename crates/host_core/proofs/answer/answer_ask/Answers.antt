use Rattle.std.proofs.Common.{refl}
use Rattle.route_core.specs.Ask.{try, list}
use Rattle.host_replies.specs.Replies.{names_reply}
use Rattle.host_core.specs.Answering.{trying}
use Rattle.host_core.specs.Asking.{AnswersAsk}
use Rattle.host_core.specs.Docs.{names_of}
use Rattle.host_core.specs.Inside.{closes, held_docs, visit_of}
use Rattle.host_core.specs.Reading.{value_in}
use Rattle.host_core.proofs.Replying.{same-by}
use Rattle.host_core.proofs.answer.answer_ask.Goals as goal

pub returns-in-Try-clause-answer : goal.returns-in-Try-clause-answer
returns-in-Try-clause-answer c =
    let docs = held_docs c.args.docs.now.items in
    rw c.in-Try.is (same-by (closes c.args.visit.now) (AnswersAsk (visit_of c.args.visit.now) try docs) docs
    (trying c.args.visit.now.schema.now.types (value_in c.args.visit.now.request.now.body.now)) c.answer_try.result refl c.answer_try.ensures)

pub returns-in-List-clause-answer : goal.returns-in-List-clause-answer
returns-in-List-clause-answer c =
    let docs = held_docs c.args.docs.now.items in
    rw c.in-List.is (same-by (closes c.args.visit.now) (AnswersAsk (visit_of c.args.visit.now) list docs) docs (names_reply (names_of docs)) c.answer_list.result refl
    (rw c.deref.ensures.value at c.answer_list.ensures))
