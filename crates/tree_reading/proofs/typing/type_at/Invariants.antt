-- What is left of the way leads from here to a place of the type at the end of the whole.
use Rattle.std.proofs.Common.{◌≡◌, drop}
use Rattle.node_core.specs.View.{labelled, way}
use Rattle.tree_core.specs.Nodes.{type_at}
use Rattle.tree_core.specs.TypesTyping.{typing_of, root_type}
use Rattle.tree_reading.proofs.typing.type_at.Given as goal

abbrev pub invariant-loop-to : goal.invariant-loop-to
invariant-loop-to l =
    type_at (typing_of l.types.table) l.t.0 (way (drop l.to-index l.turns)) (labelled l.at)
    ≡ type_at (typing_of l.types.table) (root_type l.types) (way l.turns) (labelled l.root)
