use Rattle.std.proofs.Common.{true, false, arith}
use Rattle.type_draft.proofs.Loops.{HasReached-old, HasReached-new, slice_get-mark}
use Rattle.type_draft.proofs.leads.reach.Goals as goal

pub returns-then-index : goal.returns-then-index
returns-then-index c =
    HasReached-old c.args.marks.now.items c.args.reached.now.items c.args.t c.requires.marked
    (slice_get-mark c.args.marks.now.items c.args.t.0 c.index.result.now true (omega (arith, c.requires.known, c.args.marks.now.ok.0)) c.index.ensures c.if-index.true)

pub returns : goal.returns
returns c =
    rw c.in_ok-push.ensures.items (HasReached-new c.args.marks.now.items c.args.reached.now.items c.args.t c.requires.marked
    (slice_get-mark c.args.marks.now.items c.args.t.0 c.index.result.now false (omega (arith, c.requires.known, c.args.marks.now.ok.0)) c.index.ensures c.if-index.false))
