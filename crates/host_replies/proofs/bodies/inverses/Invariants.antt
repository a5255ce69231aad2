-- The inverses so far.
use Rattle.std.proofs.Common.{◌≡◌, map, take}
use Rattle.patch_core.specs.Inverse.{inverse_of}
use Rattle.host_replies.proofs.bodies.inverses.Given as goal

abbrev pub invariant-loop-patch : goal.invariant-loop-patch
invariant-loop-patch l = l.inverses ≡ map inverse_of (take l.patch-index l.patches)
