use Rattle.std.proofs.Common.{◌≡◌, Ok, Err, refl, subst}
use Rattle.snap_core.specs.Value.{Value}
use Rattle.snap_core.specs.View.{view}
use Rattle.tree_core.specs.State.{State}
use Rattle.live_tree.specs.Contents.{state}
use Rattle.doc_core.specs.Documents.{IsCopy}
use Rattle.host_core.specs.Answering.{Done, stays}
use Rattle.host_core.specs.Asking.{Acts, Visit}
use Rattle.host_core.specs.Calling.{CallsIn}
use Rattle.host_core.specs.Inside.{ActsIn, closes, snapshot_of, visit_of}
use Rattle.host_core.specs.Reading.{Read, value_in}
use Rattle.host_core.proofs.Replying.{done-as}
use Rattle.host_core.proofs.acting.act.Goals as goal

pub returns-in-Ok-clause-done : goal.returns-in-Ok-clause-done
returns-in-Ok-clause-done c =
    let s : State = state c.args.document.now in
    let visit : Visit = visit_of c.args.visit.now in
    let copy : IsCopy visit.types (snapshot_of c.args.document.now) s = record { document = c.requires; shows = refl } in
    let given : Ok (view c.in-Ok.body) ≡ value_in visit.request.body = rw c.in-Ok.is at c.in_ok-body.ensures.read in
    let Acts-in : Read Value → Done → Type 0 = λ found done. ActsIn visit found s done in
    done-as (closes c.args.visit.now) (Acts-in (Ok (view c.in-Ok.body))) (Acts visit (snapshot_of c.args.document.now)) c.act_by.result (snapshot_of c.act_by.new.document)
    (λ done acts. let there : ActsIn visit (value_in visit.request.body) s done = subst (λ found. Acts-in found done) given acts in
    (s, copy, there.0, there.1, there.2)) c.act_by.ensures.done

pub returns-in-Err-clause-done : goal.returns-in-Err-clause-done
returns-in-Err-clause-done c =
    let s : State = state c.args.document.now in
    let visit : Visit = visit_of c.args.visit.now in
    let copy : IsCopy visit.types (snapshot_of c.args.document.now) s = record { document = c.requires; shows = refl } in
    let refused = rw c.in-Err.is at c.in_ok-body.ensures.read in
    let calls : CallsIn (value_in visit.request.body) (Err refused.0) = let P : Read Value → Type 0 = λ found. CallsIn found (Err refused.0) in subst P refused.1 refl in
    (stays s refused.0, (s, copy, Err refused.0, calls, refl), refused.2, refl)
