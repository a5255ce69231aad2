use Rattle.std.proofs.Common.{◌<◌, length, arith}
use Rattle.std.proofs.lemmas.List.{take_more}
use Rattle.type_draft.proofs.Loops.{HasReached-more}
use Rattle.type_draft.proofs.leads.reach_each.Goals as goal

pub loop-t-preserved : goal.loop-t-preserved
loop-t-preserved c =
    let within : c.loop-t.t-index < length c.args.types.now = omega arith in
    rw (take_more c.args.types.now c.loop-t.t-index (record { 0 = 0 }) within)
    (HasReached-more _ _ _ _ _ _ _ _ c.loop-t.invariant c.in_ok-reach.ensures)
