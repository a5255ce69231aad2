use Rattle.std.proofs.Common.{◌<◌, length, arith}
use Rattle.std.proofs.lemmas.List.{length-map}
use Rattle.node_core.specs.View.{labelled, items}
use Rattle.reconcile_core.proofs.Matchings.{one-itself}
use Rattle.reconcile_core.proofs.matching.each_itself.Goals as goal

pub loop-i-preserved : goal.loop-i-preserved
loop-i-preserved c =
    let inside : c.loop-i.i < length (items c.args.olds.now) = omega (arith, length-map c.args.olds.now labelled) in
    rw c.in_ok-push.ensures.ok (one-itself (items c.args.olds.now) c.loop-i.slots c.loop-i.i c.loop-i.invariant inside)
