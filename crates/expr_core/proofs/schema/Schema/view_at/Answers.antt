use Rattle.std.proofs.Common.{◌≡◌, ◌<◌, List, Some, length, get_or, map, slice_get, sym, ◌∙◌, rules}
use Rattle.std.proofs.lemmas.List.{length-map}
use Rattle.model_syntax.specs.declared.behaviour.Behaviour.{Behaviour}
use Rattle.model_syntax.specs.Shown.{ShownView, behaviour_shown, view_shown}
use Rattle.expr_core.specs.Numbers.{joined}
use Rattle.expr_core.proofs.Standing.{known, model_within, part_stands, part_within, shown_at}
use Rattle.expr_core.proofs.schema.Schema.view_at.Goals as goal

abbrev parts : Behaviour → List ShownView
parts b = (behaviour_shown b).views

pub place-place-requires : goal.place-place-requires
place-place-requires c =
    let within : c.args.v.0 < length (joined (map parts c.self.inside.behaviours)) = rw (← c.self.view_is) at c.requires in
    known parts c.self.inside.behaviours c.self.inside.views c.self.invariant.views c.args.v.0 within

pub bounds-as_slice-place : goal.bounds-as_slice-place
bounds-as_slice-place c =
    let within : c.args.v.0 < length (joined (map parts c.self.inside.behaviours)) = rw (← c.self.view_is) at c.requires in
    rw c.as_slice.ensures (model_within parts c.self.inside.behaviours c.self.inside.views c.self.invariant.views c.args.v.0 within c.place-place.result c.place-place.ensures)

pub offset_bounds-as_slice-place : goal.offset_bounds-as_slice-place
offset_bounds-as_slice-place c =
    let below : c.place-place.result.model < length c.as_slice.result.now = bounds-as_slice-place c in search rules

pub bounds-as_slice-place-2 : goal.bounds-as_slice-place-2
bounds-as_slice-place-2 c =
    let within : c.args.v.0 < length (joined (map parts c.self.inside.behaviours)) = rw (← c.self.view_is) at c.requires in
    let inside : c.place-place.result.at < length (map view_shown c.index-as_slice-place.result.views) =
    part_within parts c.self.inside.behaviours c.self.inside.views c.self.invariant.views c.args.v.0 within c.place-place.result c.place-place.ensures
    c.index-as_slice-place.result (rw c.as_slice.ensures at c.index-as_slice-place.is) in
    rw c.as_slice-2.ensures (rw (length-map c.index-as_slice-place.result.views view_shown) at inside)

pub offset_bounds-as_slice-place-2 : goal.offset_bounds-as_slice-place-2
offset_bounds-as_slice-place-2 c =
    let below : c.place-place.result.at < length c.as_slice-2.result.now = bounds-as_slice-place-2 c in search rules

pub returns : goal.returns
returns c =
    let within : c.args.v.0 < length (joined (map parts c.self.inside.behaviours)) = rw (← c.self.view_is) at c.requires in
    let b = c.index-as_slice-place.result in
    let here : b ≡ get_or c.self.inside.behaviours c.place-place.result.model b = rw c.as_slice.ensures at c.index-as_slice-place.is in
    let inside : c.place-place.result.at < length (map view_shown b.views) =
    part_within parts c.self.inside.behaviours c.self.inside.views c.self.invariant.views c.args.v.0 within c.place-place.result c.place-place.ensures b here in
    let stands : slice_get (joined (map parts c.self.inside.behaviours)) c.args.v.0 ≡ Some (view_shown c.index-as_slice-place-2.result) =
    sym (part_stands parts c.self.inside.behaviours c.self.inside.views c.self.invariant.views c.args.v.0 within c.place-place.result c.place-place.ensures
    b here) ∙ shown_at view_shown b.views c.place-place.result.at c.index-as_slice-place-2.result (rw (length-map b.views view_shown) at inside) (rw c.as_slice-2.ensures at c.index-as_slice-place-2.is) in
    rw (← c.self.view_is) stands
