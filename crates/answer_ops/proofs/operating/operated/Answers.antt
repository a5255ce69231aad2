use Rattle.std.proofs.Common.{◌≡◌, sym, ap, pos, subst}
use Rattle.eval_core.specs.Operating.{bounded_outcome, in_bounds}
use Rattle.snap_core.specs.Value.{integer}
use Rattle.eval_core.specs.Answer.{plain}
use Rattle.answer_ops.proofs.Views.{answer-Several}
use Rattle.answer_ops.proofs.Indices.{how_many-answers}
use Rattle.answer_ops.proofs.operating.operated.Goals as goal

pub returns-in-Size-Several : goal.returns-in-Size-Several
returns-in-Size-Several c =
    simp (c.in-Size-Several.is-0, c.in-Size-Several.is-1, answer-Several, how_many-answers) (rw (← c.len.ensures) c.counted.ensures)
