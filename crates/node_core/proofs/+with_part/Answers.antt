use Rattle.std.proofs.Common.{◌≡◌, ◌∙◌, ◌+◌, ◌++◌, ◌∷◌, take, drop, ap, arith, add-one}
use Rattle.std.proofs.lemmas.Grind.{common_steps}
use Rattle.edit_core.specs.Ways.{with_part}
use Rattle.node_core.specs.View.{labelled, way}
use Rattle.node_core.proofs.PartWays.{item-changed-at, item-not-changed, entry-changed-at, entry-not-changed}
use Rattle.node_core.proofs.+with_part.Goals as goal

pub replacing::items_with-returns : goal.replacing::items_with-returns
replacing::items_with-returns t c =
    let told : c.append_items-3.new.to ≡ take c.args.at c.args.parts.now ++ c.in_ok-with_part.field-0 ∷ drop (c.args.at + 1) c.args.parts.now =
    grind (arith, common_steps, c.in_ok-append_items-2.ensures, c.in_ok-push.ensures.ok, c.in_ok-append_items-3.ensures) in
    rw (told, add-one) (item-changed-at (with_part (way c.args.rest.now) (labelled c.args.new)) c.args.parts.now c.args.at c.index-parts-at.result c.in_ok-with_part.field-0 c.index-parts-at.is c.if-at-parts.false c.in_ok-with_part.ensures)

pub replacing::items_with-returns-then-at-parts : goal.replacing::items_with-returns-then-at-parts
replacing::items_with-returns-then-at-parts t c =
    let told : c.append_items.new.to ≡ c.args.parts.now = c.in_ok-append_items.ensures ∙ ap (λ xs. xs ++ c.args.parts.now) c.new-copy.ensures in
    rw told (item-not-changed (with_part (way c.args.rest.now) (labelled c.args.new)) c.args.parts.now c.args.at c.if-at-parts.true)

pub replacing::fields_with-returns : goal.replacing::fields_with-returns
replacing::fields_with-returns t c =
    let told : c.append_fields-3.new.to ≡ take c.args.at c.args.parts.now ++ record { key = c.in_ok-clone_in.field-0; value = c.in_ok-with_part.field-0 } ∷ drop (c.args.at + 1) c.args.parts.now =
    grind (arith, common_steps, c.in_ok-append_fields-2.ensures, c.in_ok-push.ensures.ok, c.in_ok-append_fields-3.ensures) in
    rw (told, add-one) (entry-changed-at (with_part (way c.args.rest.now) (labelled c.args.new)) c.args.parts.now c.args.at c.index-parts-at.result (record { key = c.in_ok-clone_in.field-0; value = c.in_ok-with_part.field-0 }) c.index-parts-at.is c.if-at-parts.false c.in_ok-clone_in.ensures c.in_ok-with_part.ensures)

pub replacing::fields_with-returns-then-at-parts : goal.replacing::fields_with-returns-then-at-parts
replacing::fields_with-returns-then-at-parts t c =
    let told : c.append_fields.new.to ≡ c.args.parts.now = c.in_ok-append_fields.ensures ∙ ap (λ xs. xs ++ c.args.parts.now) c.new-copy.ensures in
    rw told (entry-not-changed (with_part (way c.args.rest.now) (labelled c.args.new)) c.args.parts.now c.args.at c.if-at-parts.true)
