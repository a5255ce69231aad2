-- Whatever reads what is left, reads the whole.
use Rattle.std.proofs.Common.{◌≡◌, length, drop}
use Rattle.expr_syntax.specs.Syntax.{collect}
use Rattle.eval_core.specs.Scope.{gives}
use Rattle.eval_core.specs.Walking.{walk_over, start}
use Rattle.answer_ops.specs.View.{answer_of}
use Rattle.answer_ops.specs.declared.value.Value.{Value}
use Rattle.view_engine.specs.Progress.{scope_of, whole_in}
use Rattle.view_engine.specs.Walked.{items_of}
use Rattle.view_engine.proofs.Loosely.{ReadsAll, items_left}
use Rattle.view_engine.proofs.telling.read_all.Given as goal

abbrev pub invariant-loop-i : goal.invariant-loop-i
invariant-loop-i g l =
    let s = scope_of g.S.Bodies.says l.scope in
    let is = items_of (whole_in g.S.Bodies.says l.scope) l.items in
    record {
      left : ReadsAll {T = Value} answer_of (items_left s (drop l.i is) l.values) (walk_over s collect (λ y. gives y) is (start collect));
      room : l.i-end ≡ length is;
    }
