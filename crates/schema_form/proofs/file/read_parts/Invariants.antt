-- What is left has all the faults, and what is found is that of the parts so far.
use Rattle.std.proofs.Common.{◌≡◌, drop}
use Rattle.snap_core.specs.View.{fields_view}
use Rattle.schema_form.specs.Faults.{member_faults, part_faults}
use Rattle.schema_form.proofs.FileParts.{IsFoundBefore}
use Rattle.schema_form.proofs.file.read_parts.Given as goal

abbrev pub invariant-loop-part : goal.invariant-loop-part
invariant-loop-part l =
    let types = fields_view l.types in
    let rest = fields_view (drop l.part-index l.parts) in record {
      faults : member_faults (part_faults types) (fields_view l.parts) ≡ member_faults (part_faults types) rest;
      before : IsFoundBefore types (fields_view l.parts) rest l.found;
    }
