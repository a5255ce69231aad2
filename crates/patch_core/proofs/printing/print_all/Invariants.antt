-- What is printed so far, and then what the patches that are left print, are the whole.
use Rattle.std.proofs.Common.{◌≡◌, ◌++◌, drop, map}
use Rattle.snap_core.specs.View.{view}
use Rattle.patch_core.specs.Printing.{printed_patch}
use Rattle.patch_core.proofs.printing.print_all.Given as goal

abbrev pub invariant-loop-patch : goal.invariant-loop-patch
invariant-loop-patch l = map view l.items ++ map printed_patch (drop l.patch-index l.patches) ≡ map printed_patch l.patches
