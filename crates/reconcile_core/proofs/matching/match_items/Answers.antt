-- Each old item in turn takes its first.
use Rattle.std.proofs.Common.{◌≡◌, ◌∙◌, ◌+◌, [], drop, length, map, None, sym, ap}
use Rattle.std.proofs.Math.ListN.{drop_of_length-le}
use Rattle.std.proofs.lemmas.List.{length-map}
use Rattle.snap_core.specs.View.{view}
use Rattle.edit_core.specs.Matching.{all_taken}
use Rattle.node_core.specs.View.{labelled, items}
use Rattle.reconcile_core.specs.Slots.{same_in, slots_of, slot_value, slot_values}
use Rattle.reconcile_core.proofs.Matchings.{none-taken, one-stands, in-turn, length-replicate, by-first, ItemAt, item-at}
use Rattle.reconcile_core.proofs.matching.match_items.Goals as goal

pub loop-i-init : goal.loop-i-init
loop-i-init c =
    let count : length c.in_ok-slots.slots ≡ length c.args.news.now = ap length c.in_ok-slots.ensures ∙ length-replicate _ None in (
      count,
      ap (all_taken (same_in c.args.types.now.table c.args.t) (items c.args.olds.now))
          (ap (λ slots. slots_of (map view c.args.news.now) (slot_values (items c.args.olds.now) slots)) c.in_ok-slots.ensures
          ∙ none-taken (items c.args.olds.now) (map view c.args.news.now) _ (sym (length-map c.args.news.now view))),
    )

pub loop-i-preserved : goal.loop-i-preserved
loop-i-preserved c =
    let there : ItemAt c.args.olds.now c.loop-i.i = item-at c.args.olds.now c.loop-i.i c.loop-i-test.true in (
      c.take_first.ensures.count ∙ c.loop-i.invariant.0,
      ap (all_taken (same_in c.args.types.now.table c.args.t) (items (drop (c.loop-i.i + 1) c.args.olds.now))) (c.take_first.ensures.taken (labelled there.item) (one-stands c.args.olds.now c.loop-i.i there.item there.is c.loop-i-test.true))
          ∙ sym (in-turn (same_in c.args.types.now.table c.args.t) c.args.olds.now _ c.loop-i.i there.item there.is c.loop-i-test.true)
          ∙ c.loop-i.invariant.1,
    )

pub returns : goal.returns
returns c =
    let none : drop c.loop-i.i c.args.olds.now ≡ [] = drop_of_length-le c.args.olds.now c.loop-i-test.false in
    by-first (same_in c.args.types.now.table c.args.t) (items c.args.olds.now) (map view c.args.news.now) (slot_values (items c.args.olds.now) c.loop-i.slots)
    (length-map c.loop-i.slots (slot_value (items c.args.olds.now)) ∙ c.loop-i.invariant.0 ∙ sym (length-map c.args.news.now view)) c.if-pairwise.ensures (rw none at c.loop-i.invariant.1)
