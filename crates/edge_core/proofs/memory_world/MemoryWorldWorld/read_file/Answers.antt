-- A file that a world in memory was asked for.
use Rattle.edge_core.proofs.WorldSteps.{asks_after}
use Rattle.edge_core.proofs.memory_world.MemoryWorldWorld.read_file.Goals as goal

pub returns-clause-asks : goal.returns-clause-asks
returns-clause-asks c =
    let step = c.read_file.ensures in
    asks_after c.args.name.now c.args.self.now c.read_file.new.self c.read_file.result step.count step.after
