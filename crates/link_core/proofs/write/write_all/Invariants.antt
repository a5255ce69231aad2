-- The link took the front of the bytes so far.
use Rattle.std.proofs.Common.{◌≤◌, ◌-◌, length, take}
use Rattle.edge_core.specs.Door.{BothTold, Writes, KeepsDoor}
use Rattle.link_core.proofs.write.write_all.Given as goal

abbrev pub invariant-loop-written : goal.invariant-loop-written
invariant-loop-written g l =
    (l.written ≤ length l.bytes)
    × BothTold (Writes (take l.written l.bytes)) (g.D.Door.state l.fn.door).links (g.D.Door.state l.door).links
    × KeepsDoor (g.D.Door.state l.fn.door) (g.D.Door.state l.door)

abbrev pub decreases-loop-written : goal.decreases-loop-written
decreases-loop-written g l = length l.bytes - l.written
