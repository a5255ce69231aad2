use Rattle.std.proofs.Common.{Ok, Err, refl}
use Rattle.tree_core.specs.Asking.{shown}
use Rattle.tree_core.specs.State.{State}
use Rattle.live_tree.specs.Contents.{state}
use Rattle.doc_core.specs.Documents.{IsCopy}
use Rattle.host_core.specs.Answering.{showing, stays}
use Rattle.host_core.specs.Asking.{Shows, Visit}
use Rattle.host_core.specs.Inside.{closes, snapshot_of, visit_of}
use Rattle.host_core.specs.Reading.{Points}
use Rattle.host_core.proofs.Replying.{done-by}
use Rattle.host_core.proofs.document.show.Goals as goal

pub returns-in-Ok : goal.returns-in-Ok
returns-in-Ok c =
    let s : State = state c.args.document.now in
    let visit : Visit = visit_of c.args.visit.now in
    let points : Points visit.request.query (Ok c.in-Ok.path) = rw c.in-Ok.is at c.in_ok-path.ensures in
    let copy : IsCopy visit.types (snapshot_of c.args.document.now) s = record { document = c.requires; shows = refl } in
    done-by (closes c.args.visit.now) (Shows visit (snapshot_of c.args.document.now)) (stays s (showing s (Ok c.in-Ok.path))) c.show_answer.result (snapshot_of c.args.document.now)
    (s, copy, Ok c.in-Ok.path, points, refl) (c.show_answer.ensures (shown c.in-Ok.path s.tree) c.snapshot.ensures.outcome) refl

pub returns-in-Err : goal.returns-in-Err
returns-in-Err c =
    let s : State = state c.args.document.now in
    let visit : Visit = visit_of c.args.visit.now in
    let refused = rw c.in-Err.is at c.in_ok-path.ensures in
    let copy : IsCopy visit.types (snapshot_of c.args.document.now) s = record { document = c.requires; shows = refl } in
    (stays s refused.0, (s, copy, Err refused.0, refused.1, refl), refused.2, refl)
