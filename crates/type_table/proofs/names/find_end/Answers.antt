use Rattle.type_table.proofs.Named.{AreEndsWithin-set}
use Rattle.type_table.proofs.names.find_end.Goals as goal

pub returns-then-t-len : goal.returns-then-t-len
returns-then-t-len c = λ models most known.
    rw c.set.ensures (AreEndsWithin-set (record { shapes = c.args.shapes.now; models = models }) most c.args.ends.now c.args.t.0 c.end_of-end.result known
    (λ m enough. c.end_of-end.ensures models most m (rw (← c.as_slice.ensures) at known) enough))
