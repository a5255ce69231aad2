-- What is copied so far, and what is left, are the whole.
use Rattle.std.proofs.Common.{◌≡◌, ◌++◌, drop}
use Rattle.patch_core.proofs.patches.Patches.clone_in.Given as goal

abbrev pub invariant-loop-patch : goal.invariant-loop-patch
invariant-loop-patch l = l.copy ++ drop l.patch-index l.patch-items ≡ l.patch-items
