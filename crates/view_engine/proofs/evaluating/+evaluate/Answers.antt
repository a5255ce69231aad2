use Rattle.std.proofs.Common.{◌≡◌, ℕ, ◌<◌, ◌≤◌, map, take, length-append, [], ◌∷◌, Bool, Ok, Err, length, drop, drop_of_length-le, take_all, refl, sym, ◌∙◌, ap, subst, arith}
use Rattle.expr_syntax.specs.Shown.{shown}
use Rattle.answer_ops.specs.View.{answer_of}
use Rattle.answer_ops.specs.declared.value.Value.{Value}
use Rattle.snap_core.specs.Value.{boolean}
use Rattle.eval_core.specs.Answer.{Answer, plain}
use Rattle.eval_core.specs.Run.{Eval, andthen}
use Rattle.eval_core.specs.Scope.{Scope, Env, judged}
use Rattle.eval_core.specs.Reading.{operate, got}
use Rattle.eval_core.specs.Walking.{gathered}
use Rattle.eval_core.specs.Asking.{Asked, asked}
use Rattle.eval_core.specs.Evaluating.{evaluated, truth}
use Rattle.view_engine.specs.Made.{made_of}
use Rattle.view_engine.specs.declared.step.Step.TheVariants as step
use Rattle.view_engine.specs.declared.gathering.Turn.{Turn}
use Rattle.view_engine.specs.Did.{course, Did, Read}
use Rattle.view_engine.specs.Names.{names_of}
use Rattle.view_engine.specs.Progress.{Standing, scope_of, whole_in, standing_of}
use Rattle.view_engine.specs.Steps.{tested, stepped, used, walk_of}
use Rattle.view_engine.specs.Walked.{items_of, gathered_of, turn_of}
use Rattle.view_engine.proofs.Bindings.{names-Bound}
use Rattle.view_engine.proofs.Choices.{chosen_from, branch-taken, known-taken, any-taken, any-refused, truth-taken, truth-refused, truth-tested}
use Rattle.view_engine.proofs.Courses.{uncounted, counted-then, step-taken, value-reached, found-tested, found-refused, unfound-tested, last-tested, last-refused}
use Rattle.view_engine.proofs.Doing.{did-handed, read-did, tested-then, tested-stop}
use Rattle.view_engine.proofs.Entering.{standing-View, one_more_view, names-bound, view-entered}
use Rattle.view_engine.proofs.Lists.{list-pushed, list-lost-at, list-unmet, list-ends, make-pushed, make-lost-at, make-unmet, make-ends}
use Rattle.view_engine.proofs.Loops.{point, walk-starts, walk-unfound, walk-goes_on, walk-unread, walk-unmet, walk-ungathered, walk-stops, walk-ends}
use Rattle.view_engine.proofs.evaluating.+evaluate.Goals as goal

pub evaluate-returns-in_err-step : goal.evaluate-returns-in_err-step
evaluate-returns-in_err-step g t c =
    let s = scope_of g.S.Bodies.says c.args.scope.now in
    let env = names_of c.args.names.now in
    did-handed answer_of c.in_err-step.field-0.0 c.from_residual.result _ _ c.from_residual.ensures.1
    (uncounted s (shown c.args.e.now) env _ _ c.in_err-step.ensures.did)

pub evaluate-returns : goal.evaluate-returns
evaluate-returns g t c =
    let s = scope_of g.S.Bodies.says c.args.scope.now in
    let env = names_of c.args.names.now in
    counted-then s (shown c.args.e.now) env c.in_ok-step.step c.take.result _ _ _ _ _ _ c.in_ok-step.ensures.step c.in_ok-step.ensures.did c.take.ensures

pub take-returns-in-Const : goal.take-returns-in-Const
take-returns-in-Const g t c =
    let s = scope_of g.S.Bodies.says c.args.scope.now in
    let env = names_of c.args.names.now in
    step-taken s c.args.step _ env _ _ c.in-Const.is (read-did answer_of _ _ _ _ c.constant.ensures)

pub take-returns-in-Var : goal.take-returns-in-Var
take-returns-in-Var g t c =
    let s = scope_of g.S.Bodies.says c.args.scope.now in
    let env = names_of c.args.names.now in
    step-taken s c.args.step _ env _ _ c.in-Var.is (read-did answer_of _ _ _ _ c.variable.ensures)

pub take-returns-in-Own : goal.take-returns-in-Own
take-returns-in-Own g t c =
    let s = scope_of g.S.Bodies.says c.args.scope.now in
    let env = names_of c.args.names.now in
    step-taken s c.args.step _ env _ _ c.in-Own.is (c.own.ensures c.args.counted.now)

pub take-returns-in-Get : goal.take-returns-in-Get
take-returns-in-Get g t c =
    let s = scope_of g.S.Bodies.says c.args.scope.now in
    let env = names_of c.args.names.now in
    step-taken s c.args.step _ env _ _ c.in-Get.is c.get.ensures

pub take-returns-in-Make : goal.take-returns-in-Make
take-returns-in-Make g t c =
    let s = scope_of g.S.Bodies.says c.args.scope.now in
    let env = names_of c.args.names.now in
    step-taken s c.args.step _ env _ _ c.in-Make.is c.make.ensures

pub own-returns-in_err-got : goal.own-returns-in_err-got
own-returns-in_err-got g t c =
    let s = scope_of g.S.Bodies.says c.args.scope.now in
    let env = names_of c.args.names.now in
    λ n. did-handed answer_of c.in_err-got.field-0.0 c.from_residual.result _ _ c.from_residual.ensures.1
    (unfound-tested s c.in_err-got.field-0.0 _ n _ c.in_err-got.ensures.found)

pub own-returns-in_err-value : goal.own-returns-in_err-value
own-returns-in_err-value g t c =
    let s = scope_of g.S.Bodies.says c.args.scope.now in
    let env = names_of c.args.names.now in
    λ n. did-handed answer_of c.in_err-value.field-0.0 c.from_residual-in_err-value.result _ _ c.from_residual-in_err-value.ensures.1
    (found-refused s c.in_ok-got.got c.in_err-value.field-0.0 _ n _ _ c.in_ok-got.ensures.found (c.in_err-value.ensures n))

pub own-returns : goal.own-returns
own-returns g t c =
    let s = scope_of g.S.Bodies.says c.args.scope.now in
    let env = names_of c.args.names.now in
    λ n. found-tested s c.in_ok-got.got c.in_ok-value.value _ _ n _ _ c.in_ok-got.ensures.found (c.in_ok-value.ensures n) c.bounded.ensures

pub get-returns-in_err-from : goal.get-returns-in_err-from
get-returns-in_err-from g t c =
    let s = scope_of g.S.Bodies.says c.args.scope.now in
    let env = names_of c.args.names.now in
    did-handed answer_of c.in_err-from.field-0.0 c.from_residual.result _ _ c.from_residual.ensures.1
    (tested-stop {T = Value} answer_of s c.in_err-from.field-0.0 _ (got s c.args.name.now) _ c.in_err-from.ensures)

pub get-returns-in_err-got : goal.get-returns-in_err-got
get-returns-in_err-got g t c =
    let s = scope_of g.S.Bodies.says c.args.scope.now in
    let env = names_of c.args.names.now in
    did-handed answer_of c.in_err-got.field-0.0 c.from_residual-in_err-got.result _ _ c.from_residual-in_err-got.ensures.1
    (tested-then answer_of s c.in_ok-from.from _ _ (got s c.args.name.now) _ _ _ _ _ _ c.in_ok-from.ensures (unfound-tested s c.in_err-got.field-0.0 _ _ _ c.in_err-got.ensures.found))

pub get-returns-in_err-value : goal.get-returns-in_err-value
get-returns-in_err-value g t c =
    let s = scope_of g.S.Bodies.says c.args.scope.now in
    let env = names_of c.args.names.now in
    did-handed answer_of c.in_err-value.field-0.0 c.from_residual-in_err-value.result _ _ c.from_residual-in_err-value.ensures.1
    (tested-then answer_of s c.in_ok-from.from _ _ (got s c.args.name.now) _ _ _ _ _ _ c.in_ok-from.ensures
    (found-refused s c.in_ok-got.got c.in_err-value.field-0.0 _ _ _ _ c.in_ok-got.ensures.found (c.in_err-value.ensures _)))

pub get-returns : goal.get-returns
get-returns g t c =
    let s = scope_of g.S.Bodies.says c.args.scope.now in
    let env = names_of c.args.names.now in
    tested-then answer_of s c.in_ok-from.from _ _ (got s c.args.name.now) _ _ _ _ _ _ c.in_ok-from.ensures
    (found-tested s c.in_ok-got.got c.in_ok-value.value _ _ _ _ _ c.in_ok-got.ensures.found (c.in_ok-value.ensures _) c.bounded.ensures)

pub one-returns-in_err-x : goal.one-returns-in_err-x
one-returns-in_err-x g t c =
    let s = scope_of g.S.Bodies.says c.args.scope.now in
    let env = names_of c.args.names.now in
    did-handed answer_of c.in_err-x.field-0.0 c.from_residual.result _ _ c.from_residual.ensures.1
    (tested-stop {T = Value} answer_of s c.in_err-x.field-0.0 _ (used s c.args.with) _ c.in_err-x.ensures)

pub one-returns : goal.one-returns
one-returns g t c =
    let s = scope_of g.S.Bodies.says c.args.scope.now in
    let env = names_of c.args.names.now in
    tested-then answer_of s c.in_ok-x.x _ _ (used s c.args.with) _ _ _ _ _ _ c.in_ok-x.ensures (read-did answer_of _ _ _ _ c.finish.ensures)

pub two-returns-in_err-x : goal.two-returns-in_err-x
two-returns-in_err-x g t c =
    let s = scope_of g.S.Bodies.says c.args.scope.now in
    let env = names_of c.args.names.now in
    did-handed answer_of c.in_err-x.field-0.0 c.from_residual.result _ _ c.from_residual.ensures.1
    (tested-stop {T = Value} answer_of s c.in_err-x.field-0.0 _ (λ (x : Answer). andthen (evaluated s (shown c.args.b.now) env) (operate s c.args.op x)) _ c.in_err-x.ensures)

pub two-returns-in_err-y : goal.two-returns-in_err-y
two-returns-in_err-y g t c =
    let s = scope_of g.S.Bodies.says c.args.scope.now in
    let env = names_of c.args.names.now in
    did-handed answer_of c.in_err-y.field-0.0 c.from_residual-in_err-y.result _ _ c.from_residual-in_err-y.ensures.1
    (tested-then answer_of s c.in_ok-x.x _ _ (λ (x : Answer). andthen (evaluated s (shown c.args.b.now) env) (operate s c.args.op x)) _ _ _ _ _ _ c.in_ok-x.ensures
    (tested-stop {T = Value} answer_of s c.in_err-y.field-0.0 _ (operate s c.args.op (answer_of c.in_ok-x.x)) _ c.in_err-y.ensures))

pub two-returns : goal.two-returns
two-returns g t c =
    let s = scope_of g.S.Bodies.says c.args.scope.now in
    let env = names_of c.args.names.now in
    tested-then answer_of s c.in_ok-x.x _ _ (λ (x : Answer). andthen (evaluated s (shown c.args.b.now) env) (operate s c.args.op x)) _ _ _ _ _ _ c.in_ok-x.ensures
    (tested-then answer_of s c.in_ok-y.y _ _ (operate s c.args.op (answer_of c.in_ok-x.x)) _ _ _ _ _ _ c.in_ok-y.ensures (read-did answer_of _ _ _ _ c.operate.ensures))

pub bind-returns-in_err-x : goal.bind-returns-in_err-x
bind-returns-in_err-x g t c =
    let s = scope_of g.S.Bodies.says c.args.scope.now in
    let env = names_of c.args.names.now in
    did-handed answer_of c.in_err-x.field-0.0 c.from_residual.result _ _ c.from_residual.ensures.1
    (tested-stop {T = Value} answer_of s c.in_err-x.field-0.0 _ (λ (y : Answer). evaluated s (shown c.args.body.now) ((c.args.name.now, y) ∷ env)) _ c.in_err-x.ensures)

pub bind-returns-in_err-y : goal.bind-returns-in_err-y
bind-returns-in_err-y g t c =
    let s = scope_of g.S.Bodies.says c.args.scope.now in
    let env = names_of c.args.names.now in
    did-handed answer_of c.in_err-y.field-0.0 c.from_residual-in_err-y.result _ _ c.from_residual-in_err-y.ensures.1
    (tested-then answer_of s c.in_ok-x.x _ _ (λ (y : Answer). evaluated s (shown c.args.body.now) ((c.args.name.now, y) ∷ env)) _ _ _ _ _ _ c.in_ok-x.ensures
    (last-refused s c.in_err-y.field-0.0 _ _ (rw names-Bound at c.in_err-y.ensures)))

pub bind-returns : goal.bind-returns
bind-returns g t c =
    let s = scope_of g.S.Bodies.says c.args.scope.now in
    let env = names_of c.args.names.now in
    tested-then answer_of s c.in_ok-x.x _ _ (λ (y : Answer). evaluated s (shown c.args.body.now) ((c.args.name.now, y) ∷ env)) _ _ _ _ _ _ c.in_ok-x.ensures
    (last-tested s c.in_ok-y.y _ _ _ _ _ _ (rw names-Bound at c.in_ok-y.ensures) c.bounded.ensures)

pub choose-returns-in_err-x : goal.choose-returns-in_err-x
choose-returns-in_err-x g t c =
    let s = scope_of g.S.Bodies.says c.args.scope.now in
    let env = names_of c.args.names.now in
    did-handed answer_of c.in_err-x.field-0.0 c.from_residual.result _ _ c.from_residual.ensures.1
    (tested-stop {T = Value} answer_of s c.in_err-x.field-0.0 _ (chosen_from s c.args.yes c.args.no env) _ c.in_err-x.ensures)

pub choose-returns-in_err-branch : goal.choose-returns-in_err-branch
choose-returns-in_err-branch g t c =
    let s = scope_of g.S.Bodies.says c.args.scope.now in
    let env = names_of c.args.names.now in
    did-handed answer_of c.in_err-branch.field-0.0 c.from_residual-in_err-branch.result _ _ c.from_residual-in_err-branch.ensures.1
    (tested-then answer_of s c.in_ok-x.x _ _ (chosen_from s c.args.yes c.args.no env) _ _ _ _ _ _ c.in_ok-x.ensures
    (tested-stop {T = Bool} (λ b. b) s c.in_err-branch.field-0.0 (truth s (answer_of c.in_ok-x.x)) _ _ (read-did {T = Bool} (λ b. b) _ _ _ _ c.in_err-branch.ensures)))

pub choose-returns-in-Known : goal.choose-returns-in-Known
choose-returns-in-Known g t c =
    let s = scope_of g.S.Bodies.says c.args.scope.now in
    let env = names_of c.args.names.now in
    tested-then answer_of s c.in_ok-x.x _ _ (chosen_from s c.args.yes c.args.no env) _ _ _ _ _ _ c.in_ok-x.ensures
    (known-taken s (answer_of c.in_ok-x.x) (c.args.yes, c.args.no) c.in_ok-branch.branch c.in-Known.b env c.in_ok-branch.ensures.0 _ _ _ c.in_ok-branch.ensures.1 c.in_ok-branch.ensures.2 c.in-Known.is c.truth_value.ensures)

pub choose-returns-in_err-y-in-Any : goal.choose-returns-in_err-y-in-Any
choose-returns-in_err-y-in-Any g t c =
    let s = scope_of g.S.Bodies.says c.args.scope.now in
    let env = names_of c.args.names.now in
    did-handed answer_of c.in_err-y-in-Any.field-0.0 c.from_residual-in_err-y-in-Any.result _ _ c.from_residual-in_err-y-in-Any.ensures.1
    (tested-then answer_of s c.in_ok-x.x _ _ (chosen_from s c.args.yes c.args.no env) _ _ _ _ _ _ c.in_ok-x.ensures
    (any-refused s (answer_of c.in_ok-x.x) (c.args.yes, c.args.no) c.in_ok-branch.branch c.in-Any.e env c.in_ok-branch.ensures.0 c.in_err-y-in-Any.field-0.0 _ c.in_ok-branch.ensures.1 c.in_ok-branch.ensures.2 c.in-Any.is c.in_err-y-in-Any.ensures))

pub choose-returns-in-Any : goal.choose-returns-in-Any
choose-returns-in-Any g t c =
    let s = scope_of g.S.Bodies.says c.args.scope.now in
    let env = names_of c.args.names.now in
    tested-then answer_of s c.in_ok-x.x _ _ (chosen_from s c.args.yes c.args.no env) _ _ _ _ _ _ c.in_ok-x.ensures
    (any-taken s (answer_of c.in_ok-x.x) (c.args.yes, c.args.no) c.in_ok-branch.branch c.in-Any.e env c.in_ok-branch.ensures.0 c.in_ok-y-in-Any.y _ _ c.in_ok-branch.ensures.1 c.in_ok-branch.ensures.2 c.in-Any.is c.in_ok-y-in-Any.ensures c.bounded.ensures)

pub choose-returns-in_err-y-in-Truth : goal.choose-returns-in_err-y-in-Truth
choose-returns-in_err-y-in-Truth g t c =
    let s = scope_of g.S.Bodies.says c.args.scope.now in
    let env = names_of c.args.names.now in
    did-handed answer_of c.in_err-y-in-Truth.field-0.0 c.from_residual-in_err-y-in-Truth.result _ _ c.from_residual-in_err-y-in-Truth.ensures.1
    (tested-then answer_of s c.in_ok-x.x _ _ (chosen_from s c.args.yes c.args.no env) _ _ _ _ _ _ c.in_ok-x.ensures
    (truth-refused s (answer_of c.in_ok-x.x) (c.args.yes, c.args.no) c.in_ok-branch.branch c.in-Truth.e env c.in_ok-branch.ensures.0 c.in_err-y-in-Truth.field-0.0 _ c.in_ok-branch.ensures.1 c.in_ok-branch.ensures.2 c.in-Truth.is c.in_err-y-in-Truth.ensures))

pub choose-returns : goal.choose-returns
choose-returns g t c =
    let s = scope_of g.S.Bodies.says c.args.scope.now in
    let env = names_of c.args.names.now in
    tested-then answer_of s c.in_ok-x.x _ _ (chosen_from s c.args.yes c.args.no env) _ _ _ _ _ _ c.in_ok-x.ensures
    (truth-taken s (answer_of c.in_ok-x.x) (c.args.yes, c.args.no) c.in_ok-branch.branch c.in-Truth.e env c.in_ok-branch.ensures.0 c.in_ok-y-in-Truth.y _ _ c.in_ok-branch.ensures.1 c.in_ok-branch.ensures.2 c.in-Truth.is c.in_ok-y-in-Truth.ensures c.judged_truth.ensures)

pub walk-returns-in_err-from : goal.walk-returns-in_err-from
walk-returns-in_err-from g t c =
    let s = scope_of g.S.Bodies.says c.args.scope.now in
    let env = names_of c.args.names.now in
    let w = walk_of c.args.with.walk in
    let body = λ (z : Answer). evaluated s (shown c.args.with.body.now) ((c.args.with.name.now, z) ∷ env) in
    let over = evaluated s (shown c.args.with.over.now) env in
    let seen = items_of (whole_in g.S.Bodies.says c.args.scope.now) in
    let from = point c.args.counted.now c.args.steps.now in
    did-handed answer_of c.in_err-from.field-0.0 c.from_residual.result _ _ c.from_residual.ensures.1
    (tested-stop {T = Value} answer_of s c.in_err-from.field-0.0 over _ _ c.in_err-from.ensures)

pub walk-returns-in_err-items : goal.walk-returns-in_err-items
walk-returns-in_err-items g t c =
    let s = scope_of g.S.Bodies.says c.args.scope.now in
    let env = names_of c.args.names.now in
    let w = walk_of c.args.with.walk in
    let body = λ (z : Answer). evaluated s (shown c.args.with.body.now) ((c.args.with.name.now, z) ∷ env) in
    let over = evaluated s (shown c.args.with.over.now) env in
    let seen = items_of (whole_in g.S.Bodies.says c.args.scope.now) in
    let from = point c.args.counted.now c.args.steps.now in
    did-handed answer_of c.in_err-items.field-0.0 c.from_residual-in_err-items.result _ _ c.from_residual-in_err-items.ensures.1
    (walk-unfound seen s w body over c.in_ok-from.from c.in_err-items.field-0.0 from (point c.evaluate.new.counted c.evaluate.new.steps) c.in_ok-from.ensures c.in_err-items.ensures)

pub walk-loop-i-init : goal.walk-loop-i-init
walk-loop-i-init g t c =
    let s = scope_of g.S.Bodies.says c.args.scope.now in
    let env = names_of c.args.names.now in
    let w = walk_of c.args.with.walk in
    let body = λ (z : Answer). evaluated s (shown c.args.with.body.now) ((c.args.with.name.now, z) ∷ env) in
    let over = evaluated s (shown c.args.with.over.now) env in
    let seen = items_of (whole_in g.S.Bodies.says c.args.scope.now) in
    let from = point c.args.counted.now c.args.steps.now in
    record {
      left = walk-starts seen s w body over c.in_ok-from.from c.in_ok-items.items (gathered_of c.start-so_far.result) from (point c.evaluate.new.counted c.evaluate.new.steps) c.in_ok-from.ensures c.in_ok-items.ensures c.start-so_far.ensures.gathered;
      walk = c.start-so_far.ensures.walk;
      rises = omega (arith, c.in_ok-from.ensures.counted);
      room = c.len-i-end.ensures (whole_in g.S.Bodies.says c.args.scope.now);
    }

pub walk-returns-in_err-x : goal.walk-returns-in_err-x
walk-returns-in_err-x g t c =
    let s = scope_of g.S.Bodies.says c.args.scope.now in
    let env = names_of c.args.names.now in
    let w = walk_of c.args.with.walk in
    let body = λ (z : Answer). evaluated s (shown c.args.with.body.now) ((c.args.with.name.now, z) ∷ env) in
    let over = evaluated s (shown c.args.with.over.now) env in
    let seen = items_of (whole_in g.S.Bodies.says c.args.scope.now) in
    let from = point c.args.counted.now c.args.steps.now in
    let middle = point c.loop-i.counted c.loop-i.steps in
    let whole = tested s (stepped s (step.Walk c.args.with) env) in
    let within = subst (λ (n : ℕ). c.loop-i.i < n) c.loop-i.invariant.room c.loop-i-test.true in
    did-handed answer_of c.in_err-x.field-0.0 c.from_residual-in_err-x.result _ _ c.from_residual-in_err-x.ensures.1
    (walk-unread s w body _ c.loop-i.i (gathered_of c.loop-i.so_far) c.in_err-x.field-0.0 whole from middle within c.loop-i.invariant.left c.in_err-x.ensures)

pub walk-returns-in_err-y : goal.walk-returns-in_err-y
walk-returns-in_err-y g t c =
    let s = scope_of g.S.Bodies.says c.args.scope.now in
    let env = names_of c.args.names.now in
    let w = walk_of c.args.with.walk in
    let body = λ (z : Answer). evaluated s (shown c.args.with.body.now) ((c.args.with.name.now, z) ∷ env) in
    let over = evaluated s (shown c.args.with.over.now) env in
    let seen = items_of (whole_in g.S.Bodies.says c.args.scope.now) in
    let from = point c.args.counted.now c.args.steps.now in
    let middle = point c.loop-i.counted c.loop-i.steps in
    let whole = tested s (stepped s (step.Walk c.args.with) env) in
    let within = subst (λ (n : ℕ). c.loop-i.i < n) c.loop-i.invariant.room c.loop-i-test.true in
    did-handed answer_of c.in_err-y.field-0.0 c.from_residual-in_err-y.result _ _ c.from_residual-in_err-y.ensures.1
    (walk-unmet s w body _ c.loop-i.i (gathered_of c.loop-i.so_far) c.in_ok-x.x c.in_err-y.field-0.0 whole from middle (point c.evaluate-in-loop-i.new.counted c.evaluate-in-loop-i.new.steps) within
    c.loop-i.invariant.left c.in_ok-x.ensures (rw names-Bound at c.in_err-y.ensures))

pub walk-returns-in_err-turn : goal.walk-returns-in_err-turn
walk-returns-in_err-turn g t c =
    let s = scope_of g.S.Bodies.says c.args.scope.now in
    let env = names_of c.args.names.now in
    let w = walk_of c.args.with.walk in
    let body = λ (z : Answer). evaluated s (shown c.args.with.body.now) ((c.args.with.name.now, z) ∷ env) in
    let over = evaluated s (shown c.args.with.over.now) env in
    let seen = items_of (whole_in g.S.Bodies.says c.args.scope.now) in
    let from = point c.args.counted.now c.args.steps.now in
    let middle = point c.loop-i.counted c.loop-i.steps in
    let whole = tested s (stepped s (step.Walk c.args.with) env) in
    let within = subst (λ (n : ℕ). c.loop-i.i < n) c.loop-i.invariant.room c.loop-i-test.true in
    let gathering = subst (λ k. Read {T = Turn} turn_of (Err c.in_err-turn.field-0.0) (judged s (gathered k (gathered_of c.loop-i.so_far) (answer_of c.in_ok-x.x) (answer_of c.in_ok-y.y)))) c.loop-i.invariant.walk c.in_err-turn.ensures.turn in
    did-handed answer_of c.in_err-turn.field-0.0 c.from_residual-in_err-turn.result _ _ c.from_residual-in_err-turn.ensures.1
    (walk-ungathered turn_of s w body _ c.loop-i.i (gathered_of c.loop-i.so_far) c.in_ok-x.x c.in_ok-y.y c.in_err-turn.field-0.0 whole from middle (point c.evaluate-in-loop-i.new.counted c.evaluate-in-loop-i.new.steps) within
    c.loop-i.invariant.left c.in_ok-x.ensures (rw names-Bound at c.in_ok-y.ensures) gathering)

pub walk-returns-in-Stop : goal.walk-returns-in-Stop
walk-returns-in-Stop g t c =
    let s = scope_of g.S.Bodies.says c.args.scope.now in
    let env = names_of c.args.names.now in
    let w = walk_of c.args.with.walk in
    let body = λ (z : Answer). evaluated s (shown c.args.with.body.now) ((c.args.with.name.now, z) ∷ env) in
    let over = evaluated s (shown c.args.with.over.now) env in
    let seen = items_of (whole_in g.S.Bodies.says c.args.scope.now) in
    let from = point c.args.counted.now c.args.steps.now in
    let middle = point c.loop-i.counted c.loop-i.steps in
    let whole = tested s (stepped s (step.Walk c.args.with) env) in
    let within = subst (λ (n : ℕ). c.loop-i.i < n) c.loop-i.invariant.room c.loop-i-test.true in
    let gathering = subst (λ k. Read turn_of (Ok c.in_ok-turn.turn) (judged s (gathered k (gathered_of c.loop-i.so_far) (answer_of c.in_ok-x.x) (answer_of c.in_ok-y.y)))) c.loop-i.invariant.walk c.in_ok-turn.ensures.turn in
    walk-stops turn_of s w body _ c.loop-i.i (gathered_of c.loop-i.so_far) (plain (boolean c.in-Stop.b)) c.in_ok-x.x c.in_ok-y.y c.in_ok-turn.turn _ whole from middle (point c.evaluate-in-loop-i.new.counted c.evaluate-in-loop-i.new.steps) within
    c.loop-i.invariant.left c.in_ok-x.ensures (rw names-Bound at c.in_ok-y.ensures) gathering (ap turn_of c.in-Stop.is) (truth-tested s c.in-Stop.b _ c.truth_value.ensures)

pub walk-loop-i-preserved : goal.walk-loop-i-preserved
walk-loop-i-preserved g t c =
    let s = scope_of g.S.Bodies.says c.args.scope.now in
    let env = names_of c.args.names.now in
    let w = walk_of c.args.with.walk in
    let body = λ (z : Answer). evaluated s (shown c.args.with.body.now) ((c.args.with.name.now, z) ∷ env) in
    let over = evaluated s (shown c.args.with.over.now) env in
    let seen = items_of (whole_in g.S.Bodies.says c.args.scope.now) in
    let from = point c.args.counted.now c.args.steps.now in
    let middle = point c.loop-i.counted c.loop-i.steps in
    let whole = tested s (stepped s (step.Walk c.args.with) env) in
    let within = subst (λ (n : ℕ). c.loop-i.i < n) c.loop-i.invariant.room c.loop-i-test.true in
    let gathering = subst (λ k. Read turn_of (Ok c.in_ok-turn.turn) (judged s (gathered k (gathered_of c.loop-i.so_far) (answer_of c.in_ok-x.x) (answer_of c.in_ok-y.y)))) c.loop-i.invariant.walk c.in_ok-turn.ensures.turn in
    record {
      left = walk-goes_on turn_of s w body _ c.loop-i.i (gathered_of c.loop-i.so_far) (gathered_of c.in-On.more) c.in_ok-x.x c.in_ok-y.y c.in_ok-turn.turn whole from middle (point c.evaluate-in-loop-i.new.counted c.evaluate-in-loop-i.new.steps) within
          c.loop-i.invariant.left c.in_ok-x.ensures (rw names-Bound at c.in_ok-y.ensures) gathering (ap turn_of c.in-On.is);
      walk = (rw c.in-On.is at c.in_ok-turn.ensures.walk) ∙ c.loop-i.invariant.walk;
      rises = omega (arith, c.in_ok-y.ensures.counted);
      room = c.loop-i.invariant.room;
    }

pub walk-returns : goal.walk-returns
walk-returns g t c =
    let s = scope_of g.S.Bodies.says c.args.scope.now in
    let env = names_of c.args.names.now in
    let w = walk_of c.args.with.walk in
    let body = λ (z : Answer). evaluated s (shown c.args.with.body.now) ((c.args.with.name.now, z) ∷ env) in
    let over = evaluated s (shown c.args.with.over.now) env in
    let seen = items_of (whole_in g.S.Bodies.says c.args.scope.now) in
    let from = point c.args.counted.now c.args.steps.now in
    let middle = point c.loop-i.counted c.loop-i.steps in
    let whole = tested s (stepped s (step.Walk c.args.with) env) in
    let past = subst (λ (n : ℕ). n ≤ c.loop-i.i) c.loop-i.invariant.room c.loop-i-test.false in
    walk-ends s w body _ c.loop-i.i (gathered_of c.loop-i.so_far) _ whole from middle (drop_of_length-le _ past) c.loop-i.invariant.left c.finished.ensures

pub list-returns-in_err-x : goal.list-returns-in_err-x
list-returns-in_err-x g t c =
    let s = scope_of g.S.Bodies.says c.args.scope.now in
    let env = names_of c.args.names.now in
    let from = point c.args.counted.now c.args.steps.now in
    let middle = point c.loop-e.counted c.loop-e.steps in
    let es = c.args.es.now in
    let whole = tested s (stepped s (step.List c.args.es) env) in
    did-handed answer_of c.in_err-x.field-0.0 c.from_residual.result _ _ c.from_residual.ensures.1
    (list-unmet s env es c.loop-e.e-index c.e-item.result (map answer_of c.loop-e.values) c.in_err-x.field-0.0 whole from middle (point c.evaluate.new.counted c.evaluate.new.steps) c.loop-e-test.true c.e-item.is c.loop-e.invariant.left c.in_err-x.ensures)

pub list-returns-in_err-push : goal.list-returns-in_err-push
list-returns-in_err-push g t c =
    let s = scope_of g.S.Bodies.says c.args.scope.now in
    let env = names_of c.args.names.now in
    let from = point c.args.counted.now c.args.steps.now in
    let middle = point c.loop-e.counted c.loop-e.steps in
    let es = c.args.es.now in
    let whole = tested s (stepped s (step.List c.args.es) env) in
    list-lost-at s env es c.loop-e.e-index c.e-item.result (map answer_of c.loop-e.values) c.in_ok-x.x c.from_residual-in_err-push.result whole from middle (point c.evaluate.new.counted c.evaluate.new.steps) c.loop-e-test.true c.e-item.is c.from_residual-in_err-push.ensures.1 c.loop-e.invariant.left c.in_ok-x.ensures

pub list-loop-e-preserved : goal.list-loop-e-preserved
list-loop-e-preserved g t c =
    let s = scope_of g.S.Bodies.says c.args.scope.now in
    let env = names_of c.args.names.now in
    let from = point c.args.counted.now c.args.steps.now in
    let middle = point c.loop-e.counted c.loop-e.steps in
    let es = c.args.es.now in
    let whole = tested s (stepped s (step.List c.args.es) env) in
    record {
      left = list-pushed s env es c.loop-e.e-index c.e-item.result c.loop-e.values _ c.in_ok-x.x whole from middle (point c.evaluate.new.counted c.evaluate.new.steps) c.loop-e-test.true c.e-item.is c.in_ok-push.ensures.ok c.loop-e.invariant.left c.in_ok-x.ensures;
      rises = omega (arith, c.in_ok-x.ensures.counted);
    }

pub list-returns : goal.list-returns
list-returns g t c =
    let s = scope_of g.S.Bodies.says c.args.scope.now in
    let env = names_of c.args.names.now in
    let from = point c.args.counted.now c.args.steps.now in
    let middle = point c.loop-e.counted c.loop-e.steps in
    let es = c.args.es.now in
    let whole = tested s (stepped s (step.List c.args.es) env) in
    list-ends s env es c.loop-e.e-index c.loop-e.values _ whole from middle (drop_of_length-le es {i = c.loop-e.e-index} (omega arith)) c.loop-e.invariant.left c.bounded.ensures

pub make-returns-in_err-x : goal.make-returns-in_err-x
make-returns-in_err-x g t c =
    let s = scope_of g.S.Bodies.says c.args.scope.now in
    let env = names_of c.args.names.now in
    let from = point c.args.counted.now c.args.steps.now in
    let middle = point c.loop-entry.counted c.loop-entry.steps in
    let entries = c.args.entries.now in
    let whole = tested s (stepped s (step.Make c.args.entries) env) in
    did-handed answer_of c.in_err-x.field-0.0 c.from_residual.result _ _ c.from_residual.ensures.1
    (make-unmet s env entries c.loop-entry.entry-index c.entry-item.result (made_of (take c.loop-entry.entry-index entries) c.loop-entry.values) c.in_err-x.field-0.0 whole from middle (point c.evaluate.new.counted c.evaluate.new.steps)
    c.loop-entry-test.true c.entry-item.is c.loop-entry.invariant.left c.in_err-x.ensures)

pub make-returns-in_err-push : goal.make-returns-in_err-push
make-returns-in_err-push g t c =
    let s = scope_of g.S.Bodies.says c.args.scope.now in
    let env = names_of c.args.names.now in
    let from = point c.args.counted.now c.args.steps.now in
    let middle = point c.loop-entry.counted c.loop-entry.steps in
    let entries = c.args.entries.now in
    let whole = tested s (stepped s (step.Make c.args.entries) env) in
    make-lost-at s env entries c.loop-entry.entry-index c.entry-item.result (made_of (take c.loop-entry.entry-index entries) c.loop-entry.values) c.in_ok-x.x c.from_residual-in_err-push.result whole from middle (point c.evaluate.new.counted c.evaluate.new.steps)
    c.loop-entry-test.true c.entry-item.is c.from_residual-in_err-push.ensures.1 c.loop-entry.invariant.left c.in_ok-x.ensures

pub make-loop-entry-preserved : goal.make-loop-entry-preserved
make-loop-entry-preserved g t c =
    let s = scope_of g.S.Bodies.says c.args.scope.now in
    let env = names_of c.args.names.now in
    let from = point c.args.counted.now c.args.steps.now in
    let middle = point c.loop-entry.counted c.loop-entry.steps in
    let entries = c.args.entries.now in
    let whole = tested s (stepped s (step.Make c.args.entries) env) in
    record {
      left = make-pushed s env entries c.loop-entry.entry-index c.entry-item.result c.loop-entry.values _ c.in_ok-x.x whole from middle (point c.evaluate.new.counted c.evaluate.new.steps) c.loop-entry-test.true c.entry-item.is c.in_ok-push.ensures.ok
          c.loop-entry.invariant.count c.loop-entry.invariant.left c.in_ok-x.ensures;
      rises = omega (arith, c.in_ok-x.ensures.counted);
      count = rw c.in_ok-push.ensures.ok (simp length-append (omega (arith, c.loop-entry.invariant.count)));
    }

pub make-returns : goal.make-returns
make-returns g t c =
    let s = scope_of g.S.Bodies.says c.args.scope.now in
    let env = names_of c.args.names.now in
    let from = point c.args.counted.now c.args.steps.now in
    let middle = point c.loop-entry.counted c.loop-entry.steps in
    let entries = c.args.entries.now in
    let whole = tested s (stepped s (step.Make c.args.entries) env) in
    make-ends s env entries c.loop-entry.entry-index c.loop-entry.values _ whole from middle (drop_of_length-le entries {i = c.loop-entry.entry-index} (omega arith)) (take_all c.loop-entry.entry-index entries (omega arith))
    c.loop-entry.invariant.left c.record_of.ensures

pub reach-returns-in-Value : goal.reach-returns-in-Value
reach-returns-in-Value g t c = λ n. value-reached (scope_of g.S.Bodies.says c.args.scope.now) c.args.got c.in-Value.value n c.args.steps.now c.in-Value.is

pub reach-returns-in_ok-room-in-View : goal.reach-returns-in_ok-room-in-View
reach-returns-in_ok-room-in-View g t c =
    let s : Scope = scope_of g.S.Bodies.says c.args.scope.now in
    let q : Asked = record { node = c.in-View.n; view = c.in-View.v } in
    let room = c.in_ok-room-in-View.room in
    let within : Standing → Scope = λ st. record { viewing = s.viewing; sight = s.sight; ask = asked s.viewing s.sight room st.stack; here = st.here } in
    λ n. view-entered s _ (asked s.viewing s.sight room) (standing_of c.args.scope.now.going).stack q c.args.got _ _ _ n _ _ _ c.in-View.is c.in_ok-room-in-View.ensures.1
    (ap within (standing-View c.in-View.n c.in-View.v _)) c.body.ensures (names-bound s.sight c.in-View.n c.root.result _ _ refl refl c.root.ensures) c.evaluate.ensures
