use Rattle.std.proofs.Common.{sym, subst}
use Rattle.snap_core.specs.Value.{AreKeyed, Fields}
use Rattle.snap_core.specs.View.{view, fields_view}
use Rattle.snap_core.proofs.Keys.{IsOrdered-value_at}
use Rattle.schema_form.proofs.Orders.{AreKeyed-entries}
use Rattle.schema_form.proofs.objects.entries_under.Goals as goal

pub returns-in-Some-clause-keyed : goal.returns-in-Some-clause-keyed
returns-in-Some-clause-keyed c =
    let v = view c.in-Some.value.now in
    let P : Fields → Type 0 = λ ms. AreKeyed ms in
    subst P (sym c.entries_of.ensures) (AreKeyed-entries v (IsOrdered-value_at c.args.key.now (fields_view c.args.fields.now) v c.requires (sym c.in-Some.ensures.found)))
