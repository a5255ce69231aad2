-- What was put back, and what is left, is what was to be put back.
use Rattle.std.proofs.Common.{◌≡◌, drop}
use Rattle.tree_core.specs.Written.{changed}
use Rattle.tree_lists.specs.Folding.{and_then, tree_after}
use Rattle.tree_lists.specs.Restoring.{restored}
use Rattle.tree_lists.proofs.restoring.restore_rest.Given as goal

abbrev pub invariant-loop-patch : goal.invariant-loop-patch
invariant-loop-patch l =
    and_then (changed l.made) (restored l.types (drop l.patch-index l.patches) (tree_after (changed l.made)))
    ≡ and_then (changed l.fn.made) (restored l.types l.patches (tree_after (changed l.fn.made)))
