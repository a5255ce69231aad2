-- What is left has all the faults, and the entries that are still to come.
use Rattle.std.proofs.Common.{◌≡◌, drop}
use Rattle.snap_core.specs.View.{fields_view}
use Rattle.schema_form.specs.Faults.{member_faults, entry_faults}
use Rattle.schema_form.specs.Gathering.{gathered_shown, with_entries, nothing}
use Rattle.schema_form.proofs.entries.read_entries.Given as goal

abbrev pub invariant-loop-field : goal.invariant-loop-field
invariant-loop-field l =
    let types = fields_view l.types in
    let rest = fields_view (drop l.field-index l.types) in record {
      faults : member_faults (entry_faults types) types ≡ member_faults (entry_faults types) rest;
      entries : with_entries types nothing types ≡ with_entries types (gathered_shown l.gathered) rest;
    }
