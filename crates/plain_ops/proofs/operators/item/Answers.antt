use Rattle.std.proofs.Common.{◌≡◌, rules, ap, sym, ◌∙◌, option_map, Some, w64, to_z, of_z}
use Rattle.snap_core.specs.View.{view}
use Rattle.plain_ops.specs.Applied.{index_in}
use Rattle.plain_ops.proofs.Indices.{item_of-index}
use Rattle.plain_ops.proofs.operators.item.Goals as goal

pub returns-in-Some : goal.returns-in-Some
returns-in-Some c =
    let passed : to_z w64 (of_z w64 c.args.z) ≡ c.args.z = search rules in
    let index : index_in c.args.z ≡ Some c.in-Some.index = ap index_in (sym passed) ∙ sym c.index_of.ensures ∙ c.in-Some.is in
    ap (option_map view) c.get.ensures ∙ item_of-index c.args.items.now c.in-Some.index (index_in c.args.z) index
