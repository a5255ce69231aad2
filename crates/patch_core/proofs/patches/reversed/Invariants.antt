-- The inverses so far, and then those of the patches that are left, are the inverses of all.
use Rattle.std.proofs.Common.{◌≡◌, ◌++◌}
use Rattle.patch_core.specs.Inverse.{back}
use Rattle.patch_core.proofs.patches.reversed.Given as goal

abbrev pub invariant-loop-patch : goal.invariant-loop-patch
invariant-loop-patch l = l.inverses ++ back l.patch-iterator.iter.rest.now ≡ back l.patches
