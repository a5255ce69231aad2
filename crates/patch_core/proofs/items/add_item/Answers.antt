use Rattle.std.proofs.Common.{◌≡◌, ◌∙◌, ◌≤◌, Some, Ok, length, sym, ap, arith}
use Rattle.std.specs.Prelude.{insert}
use Rattle.snap_core.specs.View.{items_view}
use Rattle.patch_core.specs.Place.{new_index}
use Rattle.patch_core.proofs.InPlace.{item_added}
use Rattle.patch_core.proofs.items.add_item.Goals as goal

pub returns-in_ok-insert-in-Some-clause-outcome : goal.returns-in_ok-insert-in-Some-clause-outcome
returns-in_ok-insert-in-Some-clause-outcome c =
    let place : new_index (length c.args.items.now) c.args.token.now ≡ Some c.in-Some.at = ap (λ n. new_index n c.args.token.now) (sym c.len.ensures) ∙ sym c.new_index.ensures.index ∙ c.in-Some.is in
    let within : c.in-Some.at ≤ length c.args.items.now = omega (arith, c.in-Some.ensures.within) in
    let left : c.insert.new.self ≡ insert c.args.items.now c.in-Some.at c.args.value.now = c.in_ok-insert-in-Some.ensures.ok ∙ ap (insert c.args.items.now c.in-Some.at) c.in_ok-clone_in-in-Some.ensures in
    item_added c.args.value.now c.args.items.now c.in-Some.at _ place within ∙ ap (λ vs. Ok (items_view vs)) (sym left)
