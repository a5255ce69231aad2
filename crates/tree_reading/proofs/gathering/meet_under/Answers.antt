use Rattle.std.proofs.Common.{rules}
use Rattle.node_core.specs.View.{fields}
use Rattle.tree_reading.proofs.NodeParts.{value-of-entry}
use Rattle.tree_reading.proofs.gathering.meet_under.Goals as goal

pub returns-in-Some : goal.returns-in-Some
returns-in-Some c = rw (value-of-entry c.args.name.now (fields c.args.parts.now), ← c.in-Some.ensures) c.meet_part.ensures

pub returns-in-None : goal.returns-in-None
returns-in-None c = rw (value-of-entry c.args.name.now (fields c.args.parts.now), ← c.in-None.ensures) (search rules)
