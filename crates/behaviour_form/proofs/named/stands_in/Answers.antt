use Rattle.std.proofs.Common.{◌≡◌, List, Some, sym, ◌∙◌, ap, subst}
use Rattle.std.specs.Option.{option_copied, option_map}
use Rattle.snap_core.specs.Value.{Value, value_at, IsOrdered, AreKeyed, AreOrderedMembers}
use Rattle.snap_core.specs.declared.snap.Field.{Field}
use Rattle.snap_core.specs.View.{view, fields_view}
use Rattle.snap_core.proofs.Views.{view-Dict}
use Rattle.snap_core.proofs.Keys.{AreKeyed-ordered, IsOrdered-value_at}
use Rattle.behaviour_form.proofs.named.stands_in.Goals as goal

pub find-requires : goal.find-requires
find-requires c = AreKeyed-ordered (fields_view c.args.parts.now) c.requires

pub find-requires-in-Some-Dict : goal.find-requires-in-Some-Dict
find-requires-in-Some-Dict c =
    let part = c.args.part.now in
    let found : value_at part (fields_view c.args.parts.now) ≡ Some (view c.in-Some-Dict.field-0.now) =
    sym c.find.ensures.found ∙ ap (λ o. option_map view (option_copied o)) c.in-Some-Dict.is in
    let whole : IsOrdered (view c.in-Some-Dict.field-0.now) = IsOrdered-value_at part (fields_view c.args.parts.now) _ c.requires found in
    let P : Value → Type 0 = IsOrdered in
    let Q : List Field → Type 0 = λ fs. AreKeyed (fields_view fs) in
    let ordered : AreOrderedMembers (fields_view c.in-Some-Dict.fields) = subst P (ap view c.in-Some-Dict.field-0-is ∙ view-Dict c.in-Some-Dict.fields) whole in
    subst Q (sym (c.as_slice.ensures ∙ c.in-Some-Dict.fields-is)) (AreKeyed-ordered (fields_view c.in-Some-Dict.fields) ordered)
