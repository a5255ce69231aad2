use Rattle.std.proofs.Common.{sym}
use Rattle.answer_ops.proofs.Lengths.{same_answers-lengths}
use Rattle.answer_ops.proofs.sameness.+same.Goals as goal

pub same_values-returns-then-xs-ys : goal.same_values-returns-then-xs-ys
same_values-returns-then-xs-ys t c = sym (same_answers-lengths c.args.xs.now c.args.ys.now c.if-xs-ys.true)
