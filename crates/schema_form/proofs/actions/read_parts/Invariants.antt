-- What is left has all the faults, and says what is still to come.
use Rattle.std.proofs.Common.{◌≡◌, drop}
use Rattle.snap_core.specs.View.{fields_view}
use Rattle.schema_form.specs.Faults.{member_faults, action_part_faults}
use Rattle.schema_form.specs.Modelled.{with_action_parts, idle}
use Rattle.schema_form.specs.Setting.{action_of}
use Rattle.schema_form.specs.SoFar.{acting}
use Rattle.schema_form.proofs.actions.read_parts.Given as goal

abbrev pub invariant-loop-part : goal.invariant-loop-part
invariant-loop-part l =
    let types = fields_view l.by.types.now in
    let parts = fields_view l.parts in
    let rest = fields_view (drop l.part-index l.parts) in
    let first = l.initial in record {
      faults : member_faults (action_part_faults types parts) parts ≡ member_faults (action_part_faults types parts) rest;
      said : with_action_parts (action_of l.by parts l.index) (idle first.expressions) parts
          ≡ with_action_parts (action_of l.by parts l.index) (acting l.expressions l.acting) rest;
    }
