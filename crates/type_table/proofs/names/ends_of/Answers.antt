use Rattle.type_table.proofs.names.ends_of.Goals as goal

pub loop-t-preserved : goal.loop-t-preserved
loop-t-preserved c = λ models. c.find_end.ensures models c.loop-t.t-index (c.loop-t.invariant models)
