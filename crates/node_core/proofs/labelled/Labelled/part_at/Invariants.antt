-- What is left of the way leads from here to where all of it leads from the beginning.
use Rattle.std.proofs.Common.{◌≡◌, drop}
use Rattle.edit_core.specs.Ways.{part_at}
use Rattle.node_core.specs.View.{labelled, way}
use Rattle.node_core.proofs.labelled.Labelled.part_at.Given as goal

abbrev pub invariant-loop-to : goal.invariant-loop-to
invariant-loop-to l = part_at (way (drop l.to-index l.turns)) (labelled l.at) ≡ part_at (way l.turns) (labelled l.self)
