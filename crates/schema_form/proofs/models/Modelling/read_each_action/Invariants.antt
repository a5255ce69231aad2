-- What is left has all the faults, and the actions that are still to come.
use Rattle.std.proofs.Common.{◌≡◌, drop}
use Rattle.snap_core.specs.View.{fields_view}
use Rattle.schema_form.specs.Faults.{member_faults, action_faults}
use Rattle.schema_form.specs.Modelled.{with_actions}
use Rattle.schema_form.specs.Setting.{within}
use Rattle.schema_form.specs.SoFar.{so_far}
use Rattle.schema_form.proofs.models.Modelling.read_each_action.Given as goal

abbrev pub invariant-loop-field : goal.invariant-loop-field
invariant-loop-field l =
    let types = fields_view l.by.types.now in
    let rest = fields_view (drop l.field-index l.fields) in
    let first = l.initial in record {
      faults : member_faults (action_faults types) (fields_view l.fields) ≡ member_faults (action_faults types) rest;
      said : with_actions (within l.by) (so_far first.expressions first.self) (fields_view l.fields) ≡ with_actions (within l.by) (so_far l.expressions l.self) rest;
    }
