use Rattle.std.proofs.Common.{◌∙◌, ap}
use Rattle.std.specs.Option.{option_map}
use Rattle.node_core.specs.View.{labelled}
use Rattle.node_core.proofs.PartWays.{part-item, part-entry}
use Rattle.node_core.proofs.labelled.Labelled.part.Goals as goal

pub returns-in-Array-Item : goal.returns-in-Array-Item
returns-in-Array-Item c = rw (c.in-Array-Item.is-0, c.in-Array-Item.is-1) (ap (option_map labelled) c.get.ensures ∙ part-item _ c.in-Array-Item.items c.in-Array-Item.i)

pub returns-in-Record-Entry : goal.returns-in-Record-Entry
returns-in-Record-Entry c = rw (c.in-Record-Entry.is-0, c.in-Record-Entry.is-1) ((rw c.as_slice.ensures at c.value_at.ensures) ∙ part-entry _ c.in-Record-Entry.fields c.in-Record-Entry.i c.in-Record-Entry.field-1-1)
