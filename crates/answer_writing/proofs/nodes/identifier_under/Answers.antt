-- A record's field is what stands under its key.
use Rattle.snap_core.proofs.Views.{view-Null}
use Rattle.node_core.specs.View.{fields}
use Rattle.tree_reading.proofs.NodeParts.{value-of-entry}
use Rattle.answer_writing.proofs.nodes.identifier_under.Goals as goal

pub returns-in-Some : goal.returns-in-Some
returns-in-Some c = rw (value-of-entry c.args.name.now (fields c.args.fields.now), ← c.in-Some.ensures) c.identifier_value.ensures

pub returns-in-None : goal.returns-in-None
returns-in-None c = rw (value-of-entry c.args.name.now (fields c.args.fields.now), ← c.in-None.ensures) view-Null
