-- What is left has the same file of that name as the whole.
use Rattle.std.proofs.Common.{◌≡◌, drop}
use Rattle.edge_core.specs.World.{file_of}
use Rattle.edge_core.proofs.memory_world.find.Given as goal

abbrev pub invariant-loop-file : goal.invariant-loop-file
invariant-loop-file l = file_of (drop l.file-index l.files) l.name ≡ file_of l.files l.name
