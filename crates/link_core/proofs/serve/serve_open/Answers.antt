-- Each step of the loop is a lemma about what holds while a link is served.
use Rattle.std.proofs.Common.{◌≡◌, ◌-◌, ◌+◌, drop, arith, rules}
use Rattle.http_front.specs.Request.{seen}
use Rattle.link_core.proofs.Serving.{serving_none, serving_read, read_failed, input_ended, refused_head, stops, goes_on}
use Rattle.link_core.proofs.serve.serve_open.Goals as goal

pub loop-request-init : goal.loop-request-init
loop-request-init g c =
    let state = g.D.Door.state in
    record {
      some = omega arith;
      most = omega arith;
      serving = rw c.clear.ensures (serving_none g.A.Handler.replies c.args.answers.now (state c.args.door.now).links (search rules));
      keeps = search rules;
    }

pub returns-in-Some-clause-serves : goal.returns-in-Some-clause-serves
returns-in-Some-clause-serves g c =
    stops g.A.Handler.replies _ c.loop-request.room (1000000 - c.loop-request.left) c.loop-request.invariant.serving (omega arith)
    (seen c.in-Found.request) (drop c.in-Found.used c.loop-request.room) (rw c.held.ensures at c.in-Found.ensures.arrives) c.give_reply.new.answers _
    c.in-Some.end (rw c.asked-request.ensures at c.in-Some.ensures.gives)

pub loop-request-preserved-in-Found : goal.loop-request-preserved-in-Found
loop-request-preserved-in-Found g c =
    let count = 1000000 - c.loop-request.left in
    let on = goes_on g.A.Handler.replies _ c.loop-request.room count c.loop-request.invariant.serving (omega arith)
    (seen c.in-Found.request) (drop c.in-Found.used c.loop-request.room) (rw c.held.ensures at c.in-Found.ensures.arrives) c.give_reply.new.answers _
    (rw c.asked-request.ensures at c.in_default.ensures.gives) in
    let next : count + 1 ≡ 1000000 - (c.loop-request.left - 1) = omega (arith, on.1) in
    record {
      some = omega (arith, on.1);
      most = omega arith;
      serving = rw (c.drop_front.ensures, ← next) on.0;
      keeps = search rules;
    }

pub loop-request-preserved : goal.loop-request-preserved
loop-request-preserved g c = record {
  some = omega arith;
  most = omega arith;
  serving = serving_read g.A.Handler.replies _ c.loop-request.room (1000000 - c.loop-request.left) c.loop-request.invariant.serving c.whole_stays.ensures
      c.read_more.new.self _ (rw c.in-Ok-true.field-0-test at c.in-Ok-true.ensures.ok);
  keeps = search rules;
}

pub returns-in-Ok-false-clause-serves : goal.returns-in-Ok-false-clause-serves
returns-in-Ok-false-clause-serves g c =
    rw c.input_end.ensures
    (input_ended g.A.Handler.replies _ c.loop-request.room (1000000 - c.loop-request.left) c.loop-request.invariant.serving (omega arith)
    c.read_more.new.self _ (rw c.held.ensures at c.in-NeedMore.ensures.arrives) (rw c.in-Ok-false.field-0-test at c.in-Ok-false.ensures.ok))

pub returns-in-Err-clause-serves : goal.returns-in-Err-clause-serves
returns-in-Err-clause-serves g c =
    read_failed g.A.Handler.replies _ c.loop-request.room (1000000 - c.loop-request.left) c.loop-request.invariant.serving (omega arith) _
    c.in-Err.ensures.err (rw c.held.ensures at c.in-NeedMore.ensures.arrives)

pub returns-in-Bad-clause-serves : goal.returns-in-Bad-clause-serves
returns-in-Bad-clause-serves g c =
    refused_head g.A.Handler.replies _ c.loop-request.room (1000000 - c.loop-request.left) c.loop-request.invariant.serving (omega arith)
    c.in-Bad.status (rw c.held.ensures at c.in-Bad.ensures.arrives) _ c.refuse.result c.refuse.ensures.writes
