use Rattle.std.proofs.Common.{Ok, Err, refl}
use Rattle.snap_core.specs.View.{view}
use Rattle.tree_core.specs.State.{State}
use Rattle.live_tree.specs.Contents.{state}
use Rattle.host_core.specs.Answering.{acting, stays}
use Rattle.host_core.specs.Asking.{Visit}
use Rattle.host_core.specs.Calling.{CallsIn, seen_call}
use Rattle.host_core.specs.Inside.{ActsIn, closes, snapshot_of, visit_of}
use Rattle.host_core.proofs.Replying.{kept-by}
use Rattle.host_core.proofs.acting.act_by.Goals as goal

pub returns-in-Ok-clause-done : goal.returns-in-Ok-clause-done
returns-in-Ok-clause-done c =
    let s : State = state c.args.document.now in
    let visit : Visit = visit_of c.args.visit.now in
    let calls : CallsIn (Ok (view c.args.body.now)) (Ok (seen_call c.in-Ok.call)) = rw c.in-Ok.is at c.in_ok-call.ensures.read in
    kept-by (closes c.args.visit.now) (ActsIn visit (Ok (view c.args.body.now)) s) (acting visit.types visit.behaviours s (Ok (seen_call c.in-Ok.call)))
    c.act_on.result (snapshot_of c.act_on.new.document) (Ok (seen_call c.in-Ok.call), calls, refl) c.act_on.ensures.done

pub returns-in-Err-clause-done : goal.returns-in-Err-clause-done
returns-in-Err-clause-done c =
    let s : State = state c.args.document.now in
    let refused = rw c.in-Err.is at c.in_ok-call.ensures.read in
    (stays s refused.0, (Err refused.0, refused.1, refl), refused.2, refl)
