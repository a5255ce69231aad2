-- The items of an answer, one after the other.
use Rattle.std.proofs.Common.{rules, subst, sym}
use Rattle.snap_core.specs.Value.{IsPlain}
use Rattle.snap_core.proofs.Views.{view-List}
use Rattle.node_core.specs.View.{items}
use Rattle.answer_ops.specs.declared.value.Value.{the_lemmas}
use Rattle.answer_ops.specs.View.{answer_of}
use Rattle.answer_writing.specs.Taking.{answer_made}
use Rattle.answer_writing.specs.View.{taking}
use Rattle.answer_writing.proofs.ItemsTaken.{plain-at, copies-plain, items-all, item-handed_on, item-more}
use Rattle.answer_writing.proofs.making.+making.Goals as goal

pub make_items-make_answer-value-requires : goal.make_items-make_answer-value-requires
make_items-make_answer-value-requires t c =
    (search (rules, the_lemmas), plain-at c.args.xs.now c.loop-i.i c.index-xs-i.result c.loop-i-test.true c.index-xs-i.is c.requires)

pub make_items-returns-in_err-value : goal.make_items-returns-in_err-value
make_items-returns-in_err-value t c =
    let l = c.loop-i in
    let h = c.under_index.ensures (answer_made (taking c.args.by.now) (answer_of c.index-xs-i.result) _) c.make_answer-value.ensures in
    let was = c.in_err-value.was in
    item-handed_on (taking c.args.by.now) c.args.of.0 c.args.xs.now (items c.args.held.now) l.i l.made l.invariant c.index-xs-i.result c.loop-i-test.true c.index-xs-i.is
    _ (c.item_held.ensures c.args.of.0) c.in_err-value.field-0.0 _ c.from_residual.ensures.1 (rw was at h)

pub make_items-loop-i-preserved : goal.make_items-loop-i-preserved
make_items-loop-i-preserved t c =
    let l = c.loop-i in
    let h = c.under_index.ensures (answer_made (taking c.args.by.now) (answer_of c.index-xs-i.result) _) c.make_answer-value.ensures in
    let was = c.in_ok-value.was in
    rw c.in_ok-push.ensures.ok
    (item-more (taking c.args.by.now) c.args.of.0 c.args.xs.now (items c.args.held.now) l.i l.made l.invariant c.index-xs-i.result c.loop-i-test.true c.index-xs-i.is
    _ (c.item_held.ensures c.args.of.0) c.in_ok-value.value (rw was at h))

pub make_items-returns : goal.make_items-returns
make_items-returns t c =
    let l = c.loop-i in
    items-all (taking c.args.by.now) c.args.of.0 c.args.xs.now (items c.args.held.now) l.i l.made l.invariant c.loop-i-test.false

pub make_several-make_plain-requires : goal.make_several-make_plain-requires
make_several-make_plain-requires t c =
    subst IsPlain (sym (view-List c.in_ok-copy_plains.field-0)) (copies-plain c.args.xs.now c.in_ok-copy_plains.field-0 c.requires c.in_ok-copy_plains.ensures)
