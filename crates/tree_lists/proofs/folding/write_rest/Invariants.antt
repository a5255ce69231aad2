-- What was written, and what is left, is what was to be written.
use Rattle.std.proofs.Common.{◌≡◌, drop}
use Rattle.tree_core.specs.Written.{changed}
use Rattle.tree_lists.specs.Folding.{rest_written}
use Rattle.tree_lists.proofs.folding.write_rest.Given as goal

abbrev pub invariant-loop-patch : goal.invariant-loop-patch
invariant-loop-patch l = rest_written l.types (drop l.patch-index l.patches) (changed l.made) ≡ rest_written l.types l.patches (changed l.fn.made)
