use Rattle.std.proofs.Common.{◌∙◌}
use Rattle.tree_reading.proofs.NodeParts.{key-of-map}
use Rattle.tree_reading.proofs.nodes.key_of_map.Goals as goal

pub returns-in-Map : goal.returns-in-Map
returns-in-Map c = rw c.in-Record.is ((rw c.as_slice.ensures at c.key_in.ensures) ∙ key-of-map c.in-Record.label c.in-Record.fields c.args.i c.in-Map.field-0 c.in-Map.is)
