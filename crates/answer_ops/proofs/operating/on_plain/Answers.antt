use Rattle.std.proofs.Common.{ap, ◌∙◌}
use Rattle.snap_core.specs.View.{view}
use Rattle.plain_ops.specs.Applied.{applied}
use Rattle.eval_core.specs.Operating.{as_plain}
use Rattle.answer_ops.proofs.Views.{answer-Plain}
use Rattle.answer_ops.proofs.Bounded.{bounded-plain}
use Rattle.answer_ops.proofs.operating.on_plain.Goals as goal

pub returns-in_ok-plain_op-in-Plain-Plain : goal.returns-in_ok-plain_op-in-Plain-Plain
returns-in_ok-plain_op-in-Plain-Plain c =
    simp (c.in-Plain-Plain.is-0, c.in-Plain-Plain.is-1, answer-Plain)
    (bounded-plain (applied c.args.op (view c.in-Plain-Plain.v) (view c.in-Plain-Plain.w)) ∙ ap as_plain c.in_ok-plain_op-in-Plain-Plain.ensures)
