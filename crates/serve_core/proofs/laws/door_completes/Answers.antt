-- The law follows from that of one link.
use Rattle.serve_core.proofs.Finishing.{door_completes}
use Rattle.serve_core.proofs.laws.door_completes.Goals as goal

pub returns : goal.returns
returns g c = door_completes g.A.Handler.replies c.link_completes.ensures
