-- The tokens so far are written.
use Rattle.std.proofs.Common.{take}
use Rattle.std.specs.Fmt.{HasWritten, IsPlainFormatter}
use Rattle.pointer_core.specs.Path.{printed}
use Rattle.pointer_core.proofs.display.PointerDisplay.fmt.Given as goal

abbrev pub invariant-loop-token : goal.invariant-loop-token
invariant-loop-token g l =
    IsPlainFormatter l.initial.f → HasWritten g.W.Write.write_str_gives l.initial.f (printed (take l.token-index l.token-items)) l.f
