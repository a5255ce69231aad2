use Rattle.std.proofs.Common.{◌≡◌, ◌∙◌, Some, Ok, length, sym, ap}
use Rattle.std.specs.Prelude.{slice_set}
use Rattle.snap_core.specs.View.{items_view}
use Rattle.patch_core.specs.Place.{index_below}
use Rattle.patch_core.proofs.InPlace.{item_replaced}
use Rattle.patch_core.proofs.items.replace_item.Goals as goal

pub returns-in_ok-clone_in-in-Some-clause-outcome : goal.returns-in_ok-clone_in-in-Some-clause-outcome
returns-in_ok-clone_in-in-Some-clause-outcome c =
    let place : index_below (length c.args.items.now) c.args.token.now ≡ Some c.in-Some.at = ap (λ n. index_below n c.args.token.now) (sym c.len.ensures) ∙ sym c.index_below.ensures.index ∙ c.in-Some.is in
    let left : c.set.new.self ≡ slice_set c.args.items.now c.in-Some.at c.args.value.now = c.set.ensures ∙ ap (slice_set c.args.items.now c.in-Some.at) c.in_ok-clone_in-in-Some.ensures in
    item_replaced c.args.value.now c.args.items.now c.in-Some.at _ place ∙ ap (λ vs. Ok (items_view vs)) (sym left)
