-- What is written, and then the tokens that are left, are the whole.
use Rattle.std.proofs.Common.{◌≡◌, ◌++◌, drop}
use Rattle.pointer_core.specs.Path.{printed}
use Rattle.pointer_core.proofs.pointer.Pointer.print.Given as goal

abbrev pub invariant-loop-token : goal.invariant-loop-token
invariant-loop-token l = l.text ++ printed (drop l.token-index l.token-items) ≡ printed l.token-items
