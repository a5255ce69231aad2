-- What the draft has, before what is left to add.
use Rattle.std.proofs.Common.{◌≡◌, ◌≤◌, ◌++◌, length, map, drop, Some, All}
use Rattle.schema_read.specs.Types.{own_shapes, models_from}
use Rattle.schema_read.specs.Assembly.{IsFit}
use Rattle.schema_read.proofs.assemble.add_models.Given as goal

abbrev pub invariant-loop-model : goal.invariant-loop-model
invariant-loop-model l =
    let left = drop l.model-index l.models in
    let first = l.initial in
    record {
      room : length first.draft.shapes ≤ length l.draft.shapes;
      known : All (IsFit (length first.draft.shapes)) left;
      shapes : l.draft.shapes ++ map Some (own_shapes (length l.draft.models) left)
          ≡ first.draft.shapes ++ map Some (own_shapes (length first.draft.models) l.models);
      models : l.draft.models ++ models_from (length l.draft.shapes) left
          ≡ first.draft.models ++ models_from (length first.draft.shapes) l.models;
    }
