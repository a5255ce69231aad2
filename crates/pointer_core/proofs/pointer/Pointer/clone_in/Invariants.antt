-- The tokens so far are copied.
use Rattle.std.proofs.Common.{◌≡◌, take}
use Rattle.pointer_core.proofs.pointer.Pointer.clone_in.Given as goal

abbrev pub invariant-loop-token : goal.invariant-loop-token
invariant-loop-token l = l.copy ≡ take l.token-index l.token-items
