use Rattle.std.proofs.Common.{◌+◌, map, drop, refl, ◌∙◌, arith}
use Rattle.snap_core.specs.View.{view, items_view, fields_view}
use Rattle.expr_form.specs.Texts.{items_in}
use Rattle.expr_form.specs.Scope.{always_bound}
use Rattle.expr_form.specs.Models.{target_of}
use Rattle.expr_form.specs.Outcome.{at}
use Rattle.expr_form.proofs.Telling.{tells-parts, tells-no_parts}
use Rattle.expr_form.proofs.Operands.{part-at}
use Rattle.expr_form.proofs.Joining.{with_first}
use Rattle.expr_form.proofs.Walking.{items-step, items-end}
use Rattle.model_syntax.specs.Shown.{middleware_shown}
use Rattle.behaviour_form.specs.Middleware.{one_read, all_read}
use Rattle.behaviour_form.proofs.Listed.{reads-none, reads-more, reads-all}
use Rattle.behaviour_form.proofs.middleware.read_middleware.Goals as goal

pub returns-in_default : goal.returns-in_default
returns-in_default c =
    let all = all_read (target_of (fields_view c.args.types.now) c.args.targets.now) always_bound in
    tells-no_parts (map middleware_shown) (items_in (view c.args.value.now)) (all 0) c.wrong.result c.in_default.ensures c.wrong.ensures

pub loop-index-init : goal.loop-index-init
loop-index-init c =
    let all = all_read (target_of (fields_view c.args.types.now) c.args.targets.now) always_bound in
    (reads-none middleware_shown c.new-2.result (all 0 (items_view c.in-Some.items.now)) c.new-2.ensures, c.in_ok-scope.ensures)

pub loop-index-preserved : goal.loop-index-preserved
loop-index-preserved c =
    let look = target_of (fields_view c.args.types.now) c.args.targets.now in
    let all = all_read look always_bound in
    let items = c.in-Some.items.now in
    let i = c.loop-index.index in
    let v = c.index-items-index.result in
    let one = at i (one_read look always_bound (view v)) in (
      reads-more middleware_shown c.loop-index.middleware c.pushed-longer.result c.at_index-one.result (all 0 (items_view items)) (all i (items_view (drop i items)))
          (all (i + 1) (items_view (drop (i + 1) items))) one c.loop-index.invariant.0
          (items-step all (λ i v rest. with_first (at i (one_read look always_bound v)) rest) (λ i v ps. refl) items i v c.loop-index-test.true c.index-items-index.is)
          c.pushed-longer.ensures
          (part-at middleware_shown (one_read look) i c.read_one-one.result c.at_index-one.result always_bound c.loop-index.scope (view v) c.loop-index.invariant.1 c.at_index-one.ensures c.read_one-one.ensures.reads),
      c.read_one-one.ensures.scope ∙ c.loop-index.invariant.1,
    )

pub returns : goal.returns
returns c =
    let look = target_of (fields_view c.args.types.now) c.args.targets.now in
    let all = all_read look always_bound in
    let items = c.in-Some.items.now in
    let i = c.loop-index.index in
    tells-parts (map middleware_shown) (items_in (view c.args.value.now)) (items_view items) (all 0) c.loop-index.middleware c.in-Some.ensures
    (reads-all middleware_shown c.loop-index.middleware (all 0 (items_view items)) (all i (items_view (drop i items))) c.loop-index.invariant.0
    (items-end all (λ i v rest. with_first (at i (one_read look always_bound v)) rest) (λ i v ps. refl) items i (omega arith)))
