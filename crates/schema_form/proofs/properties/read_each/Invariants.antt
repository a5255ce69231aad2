-- What is left has all the faults, and the expressions and properties that are still to come.
use Rattle.std.proofs.Common.{◌≡◌, ◌++◌, length, drop}
use Rattle.snap_core.specs.View.{fields_view}
use Rattle.schema_form.specs.Faults.{member_faults, property_faults}
use Rattle.schema_form.specs.Layout.{properties_laid, properties_of}
use Rattle.schema_form.proofs.properties.read_each.Given as goal

abbrev pub invariant-loop-index : goal.invariant-loop-index
invariant-loop-index l =
    let types = fields_view l.by.types.now in
    let parts = fields_view l.by.parts.now in
    let rest = fields_view (drop l.index l.fields) in
    let first = l.initial in record {
      faults : member_faults (property_faults types parts) (fields_view l.fields) ≡ member_faults (property_faults types parts) rest;
      laid : first.expressions ++ properties_laid types l.by.model 0 (fields_view l.fields) (length first.expressions)
          ≡ l.expressions ++ properties_laid types l.by.model l.index rest (length l.expressions);
      properties : properties_of types l.by.model 0 (fields_view l.fields) (length first.expressions)
          ≡ l.properties ++ properties_of types l.by.model l.index rest (length l.expressions);
    }
