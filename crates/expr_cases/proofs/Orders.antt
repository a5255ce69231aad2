-- What is read in order.
use Rattle.snap_core.specs.Value.{AreOrderedMembers, AreKeyed, Fields}
use Rattle.snap_core.proofs.Keys.{AreKeyed-ordered}

pub keyed_by_order : (ms : Fields) → AreOrderedMembers ms → AreKeyed ms
keyed_by_order = AreKeyed-ordered
