-- The link takes the bytes from the front on.
use Rattle.std.proofs.Common.{rules, arith}
use Rattle.link_core.proofs.Writing.{write_on, write_part, on_err}
use Rattle.link_core.proofs.write.write_all.Goals as goal

pub loop-written-preserved : goal.loop-written-preserved
loop-written-preserved g c =
    let before = c.loop-written.invariant in
    let written = c.in_ok-written.ensures in
    (written.within, write_on _ _ _ _ _ _ (omega (arith, written.more)) before.1 written.took, search rules)

pub returns-in_err-written-clause-part : goal.returns-in_err-written-clause-part
returns-in_err-written-clause-part g c =
    on_err c.from_residual.result _ (write_part _ _ _ _ _ c.loop-written-test.true c.in_err-written.ensures.err c.loop-written.invariant.1)
