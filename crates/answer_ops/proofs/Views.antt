-- What each variant is seen as.
use Rattle.std.proofs.Common.{◌≡◌, List, sym, ◌∙◌, ap}
use Rattle.snap_core.specs.View.{view}
use Rattle.snap_core.specs.declared.snap.Snap.{Snap}
use Rattle.snap_core.specs.declared.number.NodeNo.{NodeNo}
use Rattle.eval_core.specs.Answer.{Answer, plain, node, several}
use Rattle.answer_ops.specs.declared.value.Value
use Rattle.answer_ops.specs.declared.value.Value.TheFolds.{fold-roll-Value}
use Rattle.answer_ops.specs.declared.value.Value.TheOpen.{Value-F}
use Rattle.answer_ops.specs.declared.value.Value.TheVariants.{rolls-Plain, rolls-Node, rolls-Several}
use Rattle.answer_ops.specs.View.{answer_of, answers_of, answer_step}

pub answer-Plain : (v : Snap) → answer_of (Value.Plain v) ≡ plain (view v)
answer-Plain v = ap answer_of (sym (rolls-Plain v)) ∙ fold-roll-Value Answer answer_step (Value-F.Plain v)

pub answer-Node : (n : NodeNo) → answer_of (Value.Node n) ≡ node n
answer-Node n = ap answer_of (sym (rolls-Node n)) ∙ fold-roll-Value Answer answer_step (Value-F.Node n)

pub answer-Several : (vs : List Value.Value) → answer_of (Value.Several vs) ≡ several (answers_of vs)
answer-Several vs = ap answer_of (sym (rolls-Several vs)) ∙ fold-roll-Value Answer answer_step (Value-F.Several vs)
