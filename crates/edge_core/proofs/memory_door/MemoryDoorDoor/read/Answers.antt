use Rattle.edge_core.proofs.DoorSteps.{reads_some}
use Rattle.edge_core.proofs.memory_door.MemoryDoorDoor.read.Goals as goal

pub returns-clause-reads : goal.returns-clause-reads
returns-clause-reads c =
    let step = c.read.ensures in
    reads_some c.args.self.now c.read.new.self c.read.result c.args.room.now c.read.new.room c.requires.open c.requires.has_room step.failed step.read step.at_end step.bytes step.after
