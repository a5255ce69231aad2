-- Between two links none is open.
use Rattle.std.proofs.Common.{◌≡◌, true, false}
use Rattle.foundation_tests.proofs.door.echo.Given as goal

abbrev pub invariant-loop-links : goal.invariant-loop-links
invariant-loop-links g l =
    record {
      closed : (g.D.Door.state l.door).is_open ≡ false;
      attached : (g.D.Door.state l.door).is_attached ≡ true;
    }
