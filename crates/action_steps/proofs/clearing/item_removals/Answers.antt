use Rattle.std.proofs.Common.{rules, ◌≡◌, ℕ, suc, ◌-◌, ◌++◌, [], ◌∷◌, ap, sym, ◌∙◌, subst, arith}
use Rattle.std.proofs.lemmas.List.{length-map}
use Rattle.edit_core.specs.Labelled.{branches}
use Rattle.node_core.specs.View.{labelled, items}
use Rattle.tree_core.specs.declared.place.Place.TheVariants as place
use Rattle.action_core.specs.Statements as specs
use Rattle.action_steps.proofs.Removing.{items_down, items-begin, item-pushed}
use Rattle.action_steps.proofs.clearing.item_removals.Goals as goal

pub loop-i-init : goal.loop-i-init
loop-i-init c = items-begin c.args.n (items c.args.parts.now) _ _ c.new-places.ensures (c.len-i.ensures ∙ sym (length-map c.args.parts.now labelled))

pub loop-i-preserved : goal.loop-i-preserved
loop-i-preserved c =
    let whole = specs.item_removals c.args.n 0 (branches (items c.args.parts.now)) in
    let same : c.in-Ok.index ≡ c.loop-i.i - 1 = search rules in
    let one : c.loop-i.i ≡ suc (c.loop-i.i - 1) = omega (arith, c.loop-i-test.true) in
    item-pushed c.args.n (c.loop-i.i - 1) c.loop-i.places _ whole (c.in_ok-push.ensures.ok ∙ ap (λ j. c.loop-i.places ++ place.Item c.args.n j ∷ []) same)
    (subst (λ (i : ℕ). c.loop-i.places ++ items_down c.args.n 0 i ≡ whole) one c.loop-i.invariant)
