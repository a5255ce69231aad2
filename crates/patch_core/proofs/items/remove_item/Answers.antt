use Rattle.std.proofs.Common.{◌≡◌, ◌∙◌, Some, Ok, length, sym, ap}
use Rattle.snap_core.specs.View.{items_view}
use Rattle.patch_core.specs.Place.{index_below}
use Rattle.patch_core.proofs.InPlace.{item_removed}
use Rattle.patch_core.proofs.items.remove_item.Goals as goal

pub returns-in-Some-clause-outcome : goal.returns-in-Some-clause-outcome
returns-in-Some-clause-outcome c =
    let place : index_below (length c.args.items.now) c.args.token.now ≡ Some c.in-Some.at = ap (λ n. index_below n c.args.token.now) (sym c.len.ensures) ∙ sym c.index_below.ensures.index ∙ c.in-Some.is in
    item_removed c.args.items.now c.in-Some.at _ place ∙ ap (λ vs. Ok (items_view vs)) (sym c.remove.ensures.rest)
