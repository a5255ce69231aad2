use Rattle.std.proofs.Common.{◌<◌, length, drop, drop_of_length-le, subst, arith}
use Rattle.expr_syntax.specs.Syntax.{collect}
use Rattle.eval_core.specs.Scope.{gives}
use Rattle.eval_core.specs.Walking.{walk_over, start}
use Rattle.answer_ops.specs.View.{answer_of}
use Rattle.view_engine.specs.Did.{Read}
use Rattle.view_engine.specs.Progress.{scope_of, whole_in}
use Rattle.view_engine.specs.Walked.{items_of}
use Rattle.view_engine.proofs.Doing.{read-handed}
use Rattle.view_engine.proofs.Loosely.{items_left, item-step, item-unread, items-end}
use Rattle.view_engine.proofs.telling.read_all.Goals as goal

pub loop-i-init : goal.loop-i-init
loop-i-init g c =
    let s = scope_of g.S.Bodies.says c.args.scope.now in
    let whole = whole_in g.S.Bodies.says c.args.scope.now in
    record {
      left = λ r read. subst (λ vs. Read answer_of r (items_left s (items_of whole c.args.items.now) vs)) c.new-values.ensures read;
      room = c.len-i-end.ensures whole;
    }

pub returns-in_err-get : goal.returns-in_err-get
returns-in_err-get g c =
    let s = scope_of g.S.Bodies.says c.args.scope.now in
    let is = items_of (whole_in g.S.Bodies.says c.args.scope.now) c.args.items.now in
    let whole = walk_over s collect (λ y. gives y) is (start collect) in
    let within = subst (λ n. c.loop-i.i < n) c.loop-i.invariant.room c.loop-i-test.true in
    read-handed answer_of c.in_err-get.field-0.0 c.from_residual.result whole c.from_residual.ensures.1
    (item-unread s is c.loop-i.i c.loop-i.values c.in_err-get.field-0.0 whole within c.loop-i.invariant.left c.in_err-get.ensures)

pub loop-i-preserved : goal.loop-i-preserved
loop-i-preserved g c =
    let s = scope_of g.S.Bodies.says c.args.scope.now in
    let is = items_of (whole_in g.S.Bodies.says c.args.scope.now) c.args.items.now in
    let whole = walk_over s collect (λ y. gives y) is (start collect) in
    let within = subst (λ n. c.loop-i.i < n) c.loop-i.invariant.room c.loop-i-test.true in
    record {
      left = item-step s is c.loop-i.i c.loop-i.values c.push.new.self c.in_ok-get.field-0 whole within c.in_ok-push.ensures.ok c.loop-i.invariant.left c.in_ok-get.ensures;
      room = c.loop-i.invariant.room;
    }

pub returns : goal.returns
returns g c =
    let s = scope_of g.S.Bodies.says c.args.scope.now in
    let is = items_of (whole_in g.S.Bodies.says c.args.scope.now) c.args.items.now in
    items-end s is c.loop-i.i c.loop-i.values (walk_over s collect (λ y. gives y) is (start collect)) (drop_of_length-le is {i = c.loop-i.i} (omega (arith, c.loop-i.invariant.room, c.loop-i-test.false))) c.loop-i.invariant.left
