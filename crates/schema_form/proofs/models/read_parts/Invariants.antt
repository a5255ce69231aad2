-- What is left has all the faults, and says what is still to come.
use Rattle.std.proofs.Common.{◌≡◌, drop}
use Rattle.snap_core.specs.View.{fields_view}
use Rattle.schema_form.specs.Faults.{member_faults, model_part_faults}
use Rattle.schema_form.specs.Modelled.{with_parts, unsaid}
use Rattle.schema_form.specs.Setting.{within}
use Rattle.schema_form.specs.SoFar.{so_far}
use Rattle.schema_form.proofs.models.read_parts.Given as goal

abbrev pub invariant-loop-part : goal.invariant-loop-part
invariant-loop-part l =
    let types = fields_view l.by.types.now in
    let parts = fields_view l.by.parts.now in
    let rest = fields_view (drop l.part-index l.by.parts.now) in
    let first = l.initial in record {
      faults : member_faults (model_part_faults types parts) parts ≡ member_faults (model_part_faults types parts) rest;
      said : with_parts (within l.by) (unsaid first.expressions) parts ≡ with_parts (within l.by) (so_far l.expressions l.said) rest;
    }
