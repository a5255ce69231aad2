use Rattle.edge_core.proofs.DoorSteps.{accepts_next}
use Rattle.edge_core.proofs.memory_door.MemoryDoorDoor.accept.Goals as goal

pub returns-clause-next : goal.returns-clause-next
returns-clause-next c =
    let step = c.accept.ensures in
    accepts_next c.args.self.now c.accept.new.self c.accept.result step.failed step.more step.after
