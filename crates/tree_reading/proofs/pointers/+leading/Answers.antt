use Rattle.std.proofs.Common.{◌≡◌, ◌∷◌}
use Rattle.node_core.specs.View.{labelled, items, fields}
use Rattle.tree_core.specs.Reading.{way_along}
use Rattle.tree_reading.specs.Leading.{along_item, along_entry}
use Rattle.tree_reading.proofs.Leading.{along-array, along-record}
use Rattle.tree_reading.proofs.pointers.+leading.Goals as goal

pub lead_behind-returns-in-Array : goal.lead_behind-returns-in-Array
lead_behind-returns-in-Array t c =
    let same : along_item c.args.token.now c.args.rest.now (items c.in-Array.items) ≡ way_along (c.args.token.now ∷ c.args.rest.now) (labelled c.args.from.now) =
    rw c.in-Array.is (along-array c.args.token.now c.args.rest.now c.in-Array.field-0 c.in-Array.items) in
    rw (← same) (rw c.as_slice.ensures at c.lead_by_item.ensures)

pub lead_behind-returns-in-Record : goal.lead_behind-returns-in-Record
lead_behind-returns-in-Record t c =
    let same : along_entry c.args.token.now c.args.rest.now (fields c.in-Record.fields) ≡ way_along (c.args.token.now ∷ c.args.rest.now) (labelled c.args.from.now) =
    rw c.in-Record.is (along-record c.args.token.now c.args.rest.now c.in-Record.field-0 c.in-Record.fields) in
    rw (← same) (rw c.as_slice-in-Record.ensures at c.lead_by_key.ensures)
