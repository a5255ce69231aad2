use Rattle.std.proofs.Common.{sym, ◌∙◌}
use Rattle.snap_core.specs.View.{view}
use Rattle.plain_ops.proofs.Equality.{equal-views}
use Rattle.answer_ops.proofs.Views.{answer-Plain}
use Rattle.answer_ops.proofs.Lengths.{equal_items-lengths}
use Rattle.answer_ops.proofs.sameness.+equals.Goals as goal

pub equal_items-returns-then-xs-items : goal.equal_items-returns-then-xs-items
equal_items-returns-then-xs-items t c = sym (equal_items-lengths c.args.xs.now c.args.items.now c.if-xs-items.true)

pub equals_plain-returns-in-Plain-default : goal.equals_plain-returns-in-Plain-default
equals_plain-returns-in-Plain-default t c =
    simp (c.in-Plain-default.is-0, answer-Plain) (equal-views c.equal.result c.in-Plain-default.v c.args.w.now c.equal.ensures)
