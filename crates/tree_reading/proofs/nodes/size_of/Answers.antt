use Rattle.edit_core.proofs.Logged.{items-in, entries-in}
use Rattle.node_core.specs.View.{labelled, items, fields, field}
use Rattle.node_core.proofs.Views.{labelled-Array, labelled-Record}
use Rattle.std.proofs.lemmas.List.{length-map}
use Rattle.tree_reading.proofs.nodes.size_of.Goals as goal

pub returns-in-Array : goal.returns-in-Array
returns-in-Array c = rw (c.in-Array.is, labelled-Array c.in-Array.field-0 c.in-Array.items, items-in (items c.in-Array.items), length-map c.in-Array.items labelled) c.len.ensures

pub returns-in-Record : goal.returns-in-Record
returns-in-Record c = rw (c.in-Record.is, labelled-Record c.in-Record.field-0 c.in-Record.fields, entries-in (fields c.in-Record.fields), length-map c.in-Record.fields field) c.len-in-Record.ensures
