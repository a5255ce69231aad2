use Rattle.std.proofs.Common.{List}
use Rattle.expr_syntax.specs.Syntax.{collect, items}
use Rattle.eval_core.specs.Answer.{Answer}
use Rattle.eval_core.specs.Run.{Eval}
use Rattle.eval_core.specs.Scope.{gives}
use Rattle.eval_core.specs.Evaluating.{told}
use Rattle.eval_core.specs.Walking.{Item, walked, walk_over, start}
use Rattle.answer_ops.specs.View.{answer_of}
use Rattle.answer_ops.specs.declared.value.Value.{Value}
use Rattle.view_engine.specs.declared.items.Items.{Items}
use Rattle.view_engine.specs.Progress.{scope_of, whole_in}
use Rattle.view_engine.specs.Walked.{items_of}
use Rattle.view_engine.proofs.Doing.{read-handed, read-then, read-stop}
use Rattle.view_engine.proofs.telling.all_items.Goals as goal

pub returns : goal.returns
returns g c =
    let s = scope_of g.S.Bodies.says c.args.scope.now in
    read-then (items_of (whole_in g.S.Bodies.says c.args.scope.now)) answer_of c.in_ok-items.items c.read_all.result (walked s (answer_of c.args.x)) (λ is. walk_over s collect (λ y. gives y) is (start collect))
    c.in_ok-items.ensures c.read_all.ensures

pub returns-in_err-items : goal.returns-in_err-items
returns-in_err-items g c =
    let s = scope_of g.S.Bodies.says c.args.scope.now in
    let next : List Item → Eval Answer = λ is. walk_over s collect (λ y. gives y) is (start collect) in
    read-handed answer_of c.in_err-items.field-0.0 c.from_residual.result (told s items (answer_of c.args.x)) c.from_residual.ensures.1
    (read-stop {T = Items} {U = Value} (items_of (whole_in g.S.Bodies.says c.args.scope.now)) answer_of c.in_err-items.field-0.0 (walked s (answer_of c.args.x)) next c.in_err-items.ensures)
