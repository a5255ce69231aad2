-- A check leaves the door alone.
use Rattle.std.proofs.Common.{refl}
use Rattle.top_call.proofs.program.run.Goals as goal

pub returns-in-None-clause-causes : goal.returns-in-None-clause-causes
returns-in-None-clause-causes g c =
    rw c.in-Some.is (c.check.ensures.causes (g.D.Door.state c.args.door.now) (g.D.Door.state c.args.door.now) refl)
