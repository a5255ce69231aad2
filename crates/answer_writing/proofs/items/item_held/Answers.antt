-- An item beside what stands at its index.
use Rattle.std.proofs.Common.{◌∙◌, ap, sym, drop, slice_get}
use Rattle.std.specs.Option.{option_map, option_copied}
use Rattle.node_core.specs.View.{labelled, items}
use Rattle.answer_ops.specs.View.{answer_of}
use Rattle.answer_writing.specs.Taking.{item_aim}
use Rattle.answer_writing.proofs.Copies.{held_left, held-aim}
use Rattle.answer_writing.proofs.items.item_held.Goals as goal

pub returns-else-are_several : goal.returns-else-are_several
returns-else-are_several c =
    let held = c.args.held.now in
    λ t. held-aim (item_aim (answer_of c.args.x.now) t (drop c.args.i (items held))) t c.are_several.result (slice_get (drop c.args.i (items held)) 0)
    (option_map labelled (option_copied c.at_index.result)) (c.are_several.ensures t (drop c.args.i (items held))) c.if-are_several.false
    (held_left held c.args.i ∙ ap (option_map labelled) (sym c.at_index.ensures))
