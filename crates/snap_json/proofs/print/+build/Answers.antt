use Rattle.std.proofs.Common.{◌≡◌, take, map, sym, ap, ◌∙◌, arith}
use Rattle.std.proofs.lemmas.List.{take_all}
use Rattle.serde_json.specs.View.{items_of}
use Rattle.snap_core.specs.View.{view}
use Rattle.snap_json.specs.Printing.{built_of}
use Rattle.snap_json.proofs.Printings.{items_built-items_view}
use Rattle.snap_json.proofs.print.+build.Goals as goal

pub array_of-returns : goal.array_of-returns
array_of-returns t c =
    let l = c.loop-item in
    let xs = c.as_slice-item-items.result.now in
    let whole : take l.item-index xs ≡ c.args.items.now = take_all l.item-index xs (omega arith) ∙ c.as_slice-item-items.ensures in
    ap items_of (l.invariant ∙ ap (map (λ s. built_of (view s))) whole) ∙ sym (items_built-items_view c.args.items.now)
