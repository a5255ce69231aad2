-- The link stays open.
use Rattle.std.proofs.Common.{◌≡◌, true}
use Rattle.foundation_tests.proofs.door.echo_link.Given as goal

abbrev pub invariant-loop : goal.invariant-loop
invariant-loop g l =
    record {
      opened : (g.D.Door.state l.door).is_open ≡ true;
      attached : (g.D.Door.state l.door).is_attached ≡ (g.D.Door.state l.fn.door).is_attached;
    }
