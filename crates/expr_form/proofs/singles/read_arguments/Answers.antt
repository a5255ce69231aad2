use Rattle.std.proofs.Common.{◌+◌, List, [], map, drop, refl, sym, ◌∙◌, ap, arith}
use Rattle.snap_core.specs.View.{view, items_view, fields_view}
use Rattle.expr_syntax.specs.Syntax.{Expressions}
use Rattle.expr_syntax.specs.Shown.{shown, expressions}
use Rattle.expr_syntax.specs.declared.expr.Expr.{Expr}
use Rattle.expr_form.specs.Texts.{items_in}
use Rattle.expr_form.specs.Models.{target_of}
use Rattle.expr_form.specs.Outcome.{reads, at, made}
use Rattle.expr_form.specs.Expressions.{expression_read, items_read}
use Rattle.expr_form.proofs.Telling.{tells-same, tells-parts, tells-no_parts, tells-mapped}
use Rattle.expr_form.proofs.Operands.{part-at}
use Rattle.expr_form.proofs.Joining.{joined, with_first, with_last, joined-first, joined-none, joined-end, tells-pushed}
use Rattle.expr_form.proofs.Walking.{items-step, items-end}
use Rattle.expr_form.proofs.singles.read_arguments.Goals as goal

abbrev arguments : List Expr → Expressions
arguments es = expressions (map shown es)

pub returns-in_default-clause-reads : goal.returns-in_default-clause-reads
returns-in_default-clause-reads c =
    let read = expression_read (target_of (fields_view c.args.types.now) c.args.targets.now) in
    tells-no_parts arguments (items_in (view c.args.value.now)) (λ ps. made expressions (items_read read c.args.scope.now 0 ps)) c.wrong.result c.in_default.ensures c.wrong.ensures

pub loop-index-init : goal.loop-index-init
loop-index-init c = (reads [], ap (λ es. reads (map shown es)) (sym c.new.ensures), sym (joined-none _), refl)

pub loop-index-preserved : goal.loop-index-preserved
loop-index-preserved c =
    let read = expression_read (target_of (fields_view c.args.types.now) c.args.targets.now) in
    let names = c.args.scope.now in
    let items = c.in-Some.items.now in
    let i = c.loop-index.index in
    let v = c.index-items-index.result in
    let so_far = c.loop-index.invariant in
    let one = at i (read names (view v)) in (
      with_last so_far.0 one,
      tells-pushed shown c.loop-index.list c.at_index-part.result c.pushed-longer.result so_far.0 one c.pushed-longer.ensures so_far.1
          (part-at shown read i c.read_expression-part.result c.at_index-part.result names c.loop-index.scope (view v) so_far.3 c.at_index-part.ensures c.read_expression-part.ensures.reads),
      so_far.2 ∙ ap (λ o. joined so_far.0 o) (items-step (items_read read names) (λ i v rest. with_first (at i (read names v)) rest) (λ i v ps. refl) items i v c.loop-index-test.true c.index-items-index.is)
          ∙ joined-first so_far.0 one (items_read read names (i + 1) (items_view (drop (i + 1) items))),
      c.read_expression-part.ensures.scope ∙ so_far.3,
    )

pub returns-clause-reads : goal.returns-clause-reads
returns-clause-reads c =
    let read = expression_read (target_of (fields_view c.args.types.now) c.args.targets.now) in
    let names = c.args.scope.now in
    let items = c.in-Some.items.now in
    let i = c.loop-index.index in
    let so_far = c.loop-index.invariant in
    tells-parts arguments (items_in (view c.args.value.now)) (items_view items) (λ ps. made expressions (items_read read names 0 ps)) c.loop-index.list c.in-Some.ensures
    (tells-mapped (map shown) expressions c.loop-index.list (items_read read names 0 (items_view items))
    (tells-same (map shown) c.loop-index.list so_far.0 (items_read read names 0 (items_view items))
    (so_far.2 ∙ ap (λ o. joined so_far.0 o) (items-end (items_read read names) (λ i v rest. with_first (at i (read names v)) rest) (λ i v ps. refl) items i (omega arith)) ∙ joined-end so_far.0)
    so_far.1))
