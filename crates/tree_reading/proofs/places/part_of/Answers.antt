use Rattle.std.proofs.Common.{◌∙◌, ap}
use Rattle.std.specs.Option.{option_map}
use Rattle.node_core.specs.View.{labelled}
use Rattle.tree_reading.proofs.NodeParts.{property-part, value-part, item-part}
use Rattle.tree_reading.proofs.places.part_of.Goals as goal

pub returns-in-Prop-Record : goal.returns-in-Prop-Record
returns-in-Prop-Record c =
    rw (c.in-Prop-Record.is-0, c.in-Prop-Record.is-1)
    ((rw c.text.ensures at c.property_in.ensures) ∙ property-part c.in-Prop-Record.field-0-0 c.in-Prop-Record.name c.in-Prop-Record.label c.in-Prop-Record.parts)

pub returns-in-Item-Array : goal.returns-in-Item-Array
returns-in-Item-Array c =
    rw (c.in-Item-Array.is-0, c.in-Item-Array.is-1)
    (ap (option_map labelled) c.get.ensures ∙ item-part c.in-Item-Array.field-0-0 c.in-Item-Array.i c.in-Item-Array.field-0-1 c.in-Item-Array.parts)

pub returns-in-Key-Record : goal.returns-in-Key-Record
returns-in-Key-Record c =
    rw (c.in-Key-Record.is-0, c.in-Key-Record.is-1)
    ((rw c.text-in-Key-Record.ensures at c.value_in.ensures) ∙ value-part c.in-Key-Record.field-0-0 c.in-Key-Record.key c.in-Key-Record.label c.in-Key-Record.parts)
