-- What is served is what was loaded.
use Rattle.top_call.specs.Words.{seen}
use Rattle.top_call.proofs.Runs.{hosts-causes}
use Rattle.top_call.proofs.program.serve_by.Goals as goal

pub returns-in-Ok-clause-causes : goal.returns-in-Ok-clause-causes
returns-in-Ok-clause-causes g c =
    hosts-causes (seen c.args.command) (g.W.World.state c.args.world.now) (g.W.World.state c.load.new.world)
    (g.D.Door.state c.args.door.now) (g.D.Door.state c.serve.new.door) c.in-Ok.schema c.args.plan c.requires.plan
    (rw c.name.ensures at c.in-Ok.ensures.loads) c.serve.ensures.plain c.serve.result c.serve.ensures.hosts
