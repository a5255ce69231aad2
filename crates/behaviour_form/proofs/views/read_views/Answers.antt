use Rattle.std.proofs.Common.{◌+◌, map, drop, refl, sym, ◌∙◌, ap, arith}
use Rattle.snap_core.specs.Value.{Value}
use Rattle.snap_core.specs.View.{view, fields_view}
use Rattle.expr_form.specs.Texts.{fields_in}
use Rattle.expr_form.specs.Scope.{always_bound}
use Rattle.expr_form.specs.Models.{target_of}
use Rattle.expr_form.specs.Outcome.{Outcome, under}
use Rattle.expr_form.specs.Expressions.{Names}
use Rattle.expr_form.proofs.Telling.{tells-same, tells-lowered, tells-parts, tells-no_parts}
use Rattle.expr_form.proofs.Operands.{same-names}
use Rattle.expr_form.proofs.Joining.{with_first}
use Rattle.expr_form.proofs.Walking.{fields-step, fields-end}
use Rattle.model_syntax.specs.Shown.{ShownView, view_shown}
use Rattle.behaviour_form.specs.Fields.{fields_read}
use Rattle.behaviour_form.specs.Named.{is_taken}
use Rattle.behaviour_form.specs.Views.{view_read}
use Rattle.behaviour_form.proofs.Listed.{reads-none, reads-more, reads-all}
use Rattle.behaviour_form.proofs.views.read_views.Goals as goal

pub returns-in_default : goal.returns-in_default
returns-in_default c =
    let all = fields_read (view_read (target_of (fields_view c.args.types.now) c.args.targets.now) (is_taken (fields_view c.args.parts.now)) always_bound) in
    tells-no_parts (map view_shown) (fields_in (view c.args.value.now)) all c.wrong.result c.in_default.ensures c.wrong.ensures

pub loop-field-init : goal.loop-field-init
loop-field-init c =
    let all = fields_read (view_read (target_of (fields_view c.args.types.now) c.args.targets.now) (is_taken (fields_view c.args.parts.now)) always_bound) in
    (reads-none view_shown c.new-2.result (all (fields_view c.in-Some.fields.now)) c.new-2.ensures, c.in_ok-scope.ensures)

pub loop-field-preserved : goal.loop-field-preserved
loop-field-preserved c =
    let read = view_read (target_of (fields_view c.args.types.now) c.args.targets.now) (is_taken (fields_view c.args.parts.now)) in
    let all = fields_read (read always_bound) in
    let fields = c.in-Some.fields.now in
    let i = c.loop-field.field-index in
    let f = c.field-item.result in
    let token = c.text-key.result.now in
    let told = read always_bound (f.key, view f.value) in
    let at_key : Names → Value → Outcome ShownView = λ names v. read names (f.key, v) in (
      reads-more view_shown c.loop-field.views c.pushed-longer.result c.under-view.result (all (fields_view fields)) (all (fields_view (drop i fields)))
          (all (fields_view (drop (i + 1) fields))) (under f.key told) c.loop-field.invariant.0
          (fields-step all (λ k v rest. with_first (under k (read always_bound (k, v))) rest) (λ k v ms. refl) fields i f c.loop-field-test.true c.field-item.is)
          c.pushed-longer.ensures
          (tells-same view_shown c.under-view.result (under token told) (under f.key told) (ap (λ t. under t told) (sym c.text-key.ensures))
          (tells-lowered view_shown token c.read_view-view.result c.under-view.result told c.under-view.ensures
          (same-names view_shown at_key c.read_view-view.result always_bound c.loop-field.scope (view f.value) c.loop-field.invariant.1 c.read_view-view.ensures.reads))),
      c.read_view-view.ensures.scope ∙ c.loop-field.invariant.1,
    )

pub returns : goal.returns
returns c =
    let read = view_read (target_of (fields_view c.args.types.now) c.args.targets.now) (is_taken (fields_view c.args.parts.now)) in
    let all = fields_read (read always_bound) in
    let fields = c.in-Some.fields.now in
    let i = c.loop-field.field-index in
    tells-parts (map view_shown) (fields_in (view c.args.value.now)) (fields_view fields) all c.loop-field.views c.in-Some.ensures
    (reads-all view_shown c.loop-field.views (all (fields_view fields)) (all (fields_view (drop i fields))) c.loop-field.invariant.0
    (fields-end all (λ k v rest. with_first (under k (read always_bound (k, v))) rest) (λ k v ms. refl) fields i (omega arith)))
