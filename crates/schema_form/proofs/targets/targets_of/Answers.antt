use Rattle.std.proofs.Common.{Some, None, refl, sym, ◌∙◌, ap, arith}
use Rattle.snap_core.specs.View.{view}
use Rattle.expr_form.specs.declared.models.Target.TheVariants.{Other}
use Rattle.schema_form.proofs.Orders.{model-ordered, ordered_value}
use Rattle.schema_form.proofs.Saying.{targets-step}
use Rattle.schema_form.proofs.targets.targets_of.Goals.{in-Some+in_ok-push-in-Some, in-None+in_ok-push-in-None}
use Rattle.schema_form.proofs.targets.targets_of.Goals as goal

pub model_target-requires : goal.model_target-requires
model_target-requires c =
    model-ordered (view c.field-item.result.value) (view c.in-Some.model.now) (sym c.in-Some.ensures)
    (ordered_value c.args.types.now c.loop-field.field-index c.field-item.result c.requires c.loop-field-test.true c.field-item.is)

pub loop-field-preserved : goal.loop-field-preserved
loop-field-preserved c =
    let l = c.loop-field in
    let fs = c.args.types.now in
    let f = c.field-item.result in
    elim c.match-model_in.branch [
      | in-Some+in_ok-push-in-Some w ↦ record {
        few = omega (arith, w.models-is, l.invariant.few);
        found = targets-step fs l.field-index f l.models c.match-model_in.models (Some (view w.in-Some.model.now)) l.targets.items c.match-model_in.targets.items w.model_target.result
            c.loop-field-test.true c.field-item.is (sym w.in-Some.ensures) l.invariant.found (ap (λ v. v.items) w.targets-is ∙ w.in_ok-push-in-Some.ensures.items) w.model_target.ensures w.models-is;
      }
      | in-None+in_ok-push-in-None w ↦ record {
        few = omega (arith, w.models-is, l.invariant.few);
        found = targets-step fs l.field-index f l.models c.match-model_in.models None l.targets.items c.match-model_in.targets.items Other
            c.loop-field-test.true c.field-item.is (sym w.in-None.ensures) l.invariant.found (ap (λ v. v.items) w.targets-is ∙ w.in_ok-push-in-None.ensures.items) refl w.models-is;
      }
    ]
