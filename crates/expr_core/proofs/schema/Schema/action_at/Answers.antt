use Rattle.std.proofs.Common.{◌≡◌, ◌<◌, List, Some, length, get_or, map, slice_get, sym, ◌∙◌, rules}
use Rattle.std.proofs.lemmas.List.{length-map}
use Rattle.model_syntax.specs.declared.behaviour.Behaviour.{Behaviour}
use Rattle.model_syntax.specs.Shown.{ShownAction, behaviour_shown, action_shown}
use Rattle.expr_core.specs.Numbers.{joined}
use Rattle.expr_core.proofs.Standing.{known, model_within, part_stands, part_within, shown_at}
use Rattle.expr_core.proofs.schema.Schema.action_at.Goals as goal

abbrev parts : Behaviour → List ShownAction
parts b = (behaviour_shown b).actions

pub place-place-requires : goal.place-place-requires
place-place-requires c =
    let within : c.args.a.0 < length (joined (map parts c.self.inside.behaviours)) = rw (← c.self.view_is) at c.requires in
    known parts c.self.inside.behaviours c.self.inside.actions c.self.invariant.actions c.args.a.0 within

pub bounds-as_slice-place : goal.bounds-as_slice-place
bounds-as_slice-place c =
    let within : c.args.a.0 < length (joined (map parts c.self.inside.behaviours)) = rw (← c.self.view_is) at c.requires in
    rw c.as_slice.ensures (model_within parts c.self.inside.behaviours c.self.inside.actions c.self.invariant.actions c.args.a.0 within c.place-place.result c.place-place.ensures)

pub offset_bounds-as_slice-place : goal.offset_bounds-as_slice-place
offset_bounds-as_slice-place c =
    let below : c.place-place.result.model < length c.as_slice.result.now = bounds-as_slice-place c in search rules

pub bounds-as_slice-place-2 : goal.bounds-as_slice-place-2
bounds-as_slice-place-2 c =
    let within : c.args.a.0 < length (joined (map parts c.self.inside.behaviours)) = rw (← c.self.view_is) at c.requires in
    let inside : c.place-place.result.at < length (map action_shown c.index-as_slice-place.result.actions) =
    part_within parts c.self.inside.behaviours c.self.inside.actions c.self.invariant.actions c.args.a.0 within c.place-place.result c.place-place.ensures
    c.index-as_slice-place.result (rw c.as_slice.ensures at c.index-as_slice-place.is) in
    rw c.as_slice-2.ensures (rw (length-map c.index-as_slice-place.result.actions action_shown) at inside)

pub offset_bounds-as_slice-place-2 : goal.offset_bounds-as_slice-place-2
offset_bounds-as_slice-place-2 c =
    let below : c.place-place.result.at < length c.as_slice-2.result.now = bounds-as_slice-place-2 c in search rules

pub returns : goal.returns
returns c =
    let within : c.args.a.0 < length (joined (map parts c.self.inside.behaviours)) = rw (← c.self.view_is) at c.requires in
    let b = c.index-as_slice-place.result in
    let here : b ≡ get_or c.self.inside.behaviours c.place-place.result.model b = rw c.as_slice.ensures at c.index-as_slice-place.is in
    let inside : c.place-place.result.at < length (map action_shown b.actions) =
    part_within parts c.self.inside.behaviours c.self.inside.actions c.self.invariant.actions c.args.a.0 within c.place-place.result c.place-place.ensures b here in
    let stands : slice_get (joined (map parts c.self.inside.behaviours)) c.args.a.0 ≡ Some (action_shown c.index-as_slice-place-2.result) =
    sym (part_stands parts c.self.inside.behaviours c.self.inside.actions c.self.invariant.actions c.args.a.0 within c.place-place.result c.place-place.ensures
    b here) ∙ shown_at action_shown b.actions c.place-place.result.at c.index-as_slice-place-2.result (rw (length-map b.actions action_shown) at inside) (rw c.as_slice-2.ensures at c.index-as_slice-place-2.is) in
    rw (← c.self.view_is) stands
