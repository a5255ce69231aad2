use Rattle.std.proofs.Common.{length, drop, ◌+◌, ◌∙◌, arith}
use Rattle.schema_read.proofs.Filling.{drop-next, add_step}
use Rattle.schema_read.proofs.assemble.add_models.Goals as goal

pub loop-model-preserved : goal.loop-model-preserved
loop-model-preserved c =
    let l = c.loop-model in
    let models = c.args.models.now in
    let added = c.in_ok-model.ensures in
    let named = rw (c.in_ok-name.ensures, c.in_ok-properties.ensures, c.as_slice.ensures) at added.models in
    let step = add_step (length c.args.draft.now.shapes) l.draft c.model.new.self c.model-item.result c.in_ok-model.field-0
    (drop l.model-index models) (drop (l.model-index + 1) models) (drop-next models l.model-index c.model-item.result c.loop-model-test.true c.model-item.is)
    l.invariant.known added.number named added.shapes in
    record {
      room = omega (arith, step.0, l.invariant.room);
      known = step.1;
      shapes = step.2 ∙ l.invariant.shapes;
      models = step.3 ∙ l.invariant.models;
    }
