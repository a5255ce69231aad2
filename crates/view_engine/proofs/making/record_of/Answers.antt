use Rattle.std.proofs.Common.{◌≡◌, ◌∙◌, drop, drop_of_length-le, sym, ap, subst, arith}
use Rattle.snap_core.specs.Value.{AreKeyed}
use Rattle.snap_core.specs.View.{view, fields_view}
use Rattle.expr_syntax.specs.declared.expr.Entry.{Entry}
use Rattle.eval_core.specs.Making.{fields_made, with_field}
use Rattle.view_engine.specs.Made.{made_of}
use Rattle.view_engine.specs.Progress.{scope_of, sight_in}
use Rattle.view_engine.proofs.LeavesMade.{copied-is}
use Rattle.view_engine.proofs.Records.{record-unmade-at, record-step-at, record-ends}
use Rattle.view_engine.proofs.making.record_of.Goals as goal

pub loop-i-init : goal.loop-i-init
loop-i-init g c = record {
  left = ap (λ fs. fields_made (sight_in g.S.Bodies.says c.args.scope.now) (made_of c.args.entries.now c.args.values) (fields_view fs)) c.new-fields.ensures;
  keyed = subst (λ fs. AreKeyed (fields_view fs)) (sym c.new-fields.ensures) tt;
}

pub returns-in_err-value : goal.returns-in_err-value
returns-in_err-value g c =
    record-unmade-at (scope_of g.S.Bodies.says c.args.scope.now) c.args.entries.now c.args.values c.loop-i.i c.index-answers-i.result c.from_residual.result c.in_err-value.field-0.0 (fields_view c.loop-i.fields) c.loop-i-test.true c.requires
    (copied-is c.as_slice-answers.result.now c.args.values c.loop-i.i c.index-answers-i.result c.as_slice-answers.ensures c.index-answers-i.is) c.from_residual.ensures.1 c.loop-i.invariant.left c.in_err-value.ensures

pub loop-i-preserved : goal.loop-i-preserved
loop-i-preserved g c =
    let s = scope_of g.S.Bodies.says c.args.scope.now in
    let set : fields_view c.set_field.new.fields ≡ with_field c.index-entries-i.result.key (view c.in_ok-value.value) (fields_view c.loop-i.fields) =
    c.in_ok-set_field.ensures.ok ∙ ap (λ k. with_field k (view c.in_ok-value.value) (fields_view c.loop-i.fields)) c.in_ok-key.ensures
    ∙ ap (λ (e : Entry). with_field e.key (view c.in_ok-value.value) (fields_view c.loop-i.fields)) (sym c.index-entries-i.is) in
    record {
      left = record-step-at s.here s.sight c.args.entries.now c.args.values c.loop-i.i c.index-entries-i.result c.index-answers-i.result c.in_ok-value.value (fields_view c.loop-i.fields) (fields_view c.set_field.new.fields) _
          c.loop-i-test.true c.requires c.index-entries-i.is
          (copied-is c.as_slice-answers.result.now c.args.values c.loop-i.i c.index-answers-i.result c.as_slice-answers.ensures c.index-answers-i.is) c.loop-i.invariant.left c.in_ok-value.ensures set;
      keyed = c.in_ok-set_field.ensures.keyed;
    }

pub returns : goal.returns
returns g c =
    record-ends (scope_of g.S.Bodies.says c.args.scope.now) (drop c.loop-i.i c.args.entries.now) (drop c.loop-i.i c.args.values) (made_of c.args.entries.now c.args.values) c.loop-i.fields _ (drop_of_length-le c.args.entries.now {i = c.loop-i.i} (omega (arith, c.loop-i-test.false)))
    c.loop-i.invariant.left c.bounded.ensures
