-- The ends found so far are those of as many names.
use Rattle.std.proofs.Common.{List}
use Rattle.type_table.specs.declared.shape.ModelType.{ModelType}
use Rattle.type_table.specs.NameEnds.{AreEndsWithin}
use Rattle.type_table.proofs.names.ends_of.Given as goal

abbrev pub invariant-loop-t : goal.invariant-loop-t
invariant-loop-t l = (models : List ModelType) → AreEndsWithin (record { shapes = l.shapes; models = models }) l.t-index l.ends
