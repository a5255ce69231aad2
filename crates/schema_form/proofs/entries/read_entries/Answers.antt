use Rattle.std.proofs.Common.{refl, sym, ◌∙◌, ap, drop, ◌+◌}
use Rattle.snap_core.specs.View.{fields_view}
use Rattle.schema_form.specs.Faults.{under, member_faults, entry_faults}
use Rattle.schema_form.specs.Gathering.{gathered_shown, with_entries}
use Rattle.schema_form.proofs.Finding.{handed-on, fields-passed, fields-found}
use Rattle.schema_form.proofs.Laying.{OnOk-at}
use Rattle.schema_form.proofs.Orders.{ordered_value}
use Rattle.schema_form.proofs.Ahead.{fields-ahead}
use Rattle.schema_form.proofs.entries.read_entries.Goals as goal

pub read_entry-entry-requires-clause-ordered : goal.read_entry-entry-requires-clause-ordered
read_entry-entry-requires-clause-ordered c = ordered_value c.args.types.now c.loop-field.field-index c.field-item.result c.requires c.loop-field-test.true c.field-item.is

pub returns-in_err-under-clause-finds : goal.returns-in_err-under-clause-finds
returns-in_err-under-clause-finds c =
    let e = c.in_err-under.field-0.0 in
    let types = fields_view c.args.types.now in
    let whole = member_faults (entry_faults types) types in
    handed-on e c.from_residual-in_err-under.result whole c.from_residual-in_err-under.ensures.1
    (fields-found (member_faults (entry_faults types)) (λ k v. under k (entry_faults types k v)) (λ k v ms. refl) e whole c.args.types.now c.loop-field.field-index c.field-item.result
    c.loop-field-test.true c.field-item.is c.loop-field.invariant.faults (rw c.text.ensures at (c.in_err-under.ensures.finds _ c.read_entry-entry.ensures.finds)))

pub loop-field-preserved : goal.loop-field-preserved
loop-field-preserved c =
    let types = fields_view c.args.types.now in
    let f = c.field-item.result in
    let i = c.loop-field.field-index in
    let rest = fields_view (drop (i + 1) c.args.types.now) in
    record {
      faults = fields-passed (member_faults (entry_faults types)) (λ k v. under k (entry_faults types k v)) (λ k v ms. refl) (member_faults (entry_faults types) types) c.args.types.now i f
          c.loop-field-test.true c.field-item.is c.loop-field.invariant.faults (rw c.text.ensures at (c.in_ok-under.ensures.finds _ c.read_entry-entry.ensures.finds));
      entries = c.loop-field.invariant.entries ∙ ap (with_entries types (gathered_shown c.loop-field.gathered)) (fields-ahead c.args.types.now i f c.loop-field-test.true c.field-item.is)
          ∙ ap (λ g. with_entries types g rest) (sym (OnOk-at c.read_entry-entry.result _ c.in_ok-under.ensures.ok c.read_entry-entry.ensures.ok));
    }
