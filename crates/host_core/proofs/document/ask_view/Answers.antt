use Rattle.std.proofs.Common.{◌≡◌, List, Ok, Err, IfOk, refl, sym, subst}
use Rattle.model_syntax.specs.Shown.{ShownView}
use Rattle.tree_core.specs.State.{State}
use Rattle.live_tree.specs.Contents.{state}
use Rattle.http_front.specs.Reply.{printed}
use Rattle.expr_core.specs.Schema.{views_in}
use Rattle.doc_core.specs.Documents.{IsCopy}
use Rattle.doc_core.specs.Viewing.{viewed}
use Rattle.host_core.specs.Answering.{answer_of, stays, viewing}
use Rattle.host_core.specs.Asking.{Views, Visit}
use Rattle.host_core.specs.Inside.{closes, snapshot_of, visit_of}
use Rattle.host_core.specs.Reading.{Points}
use Rattle.host_core.proofs.Replying.{done-by}
use Rattle.host_core.proofs.Viewing.{views-shown}
use Rattle.host_core.proofs.document.ask_view.Goals as goal

pub returns-in-Ok : goal.returns-in-Ok
returns-in-Ok c =
    let s : State = state c.args.document.now in
    let visit : Visit = visit_of c.args.visit.now in
    let points : Points visit.request.query (Ok c.in-Ok.path) = rw c.in-Ok.is at c.in_ok-path.ensures in
    let copy : IsCopy visit.types (snapshot_of c.args.document.now) s = record { document = c.requires; shows = refl } in
    let Says : List (List ShownView) → Type 0 =
    λ views. IfOk c.ask_view_at.result (λ bytes. bytes ≡ printed (closes c.args.visit.now) (answer_of (viewed visit.types views c.in-Ok.path c.args.name.now s.tree))) in
    done-by (closes c.args.visit.now) (Views visit c.args.name.now (snapshot_of c.args.document.now))
    (stays s (viewing visit.types (views_in visit.behaviours) s c.args.name.now (Ok c.in-Ok.path))) c.ask_view_at.result (snapshot_of c.args.document.now)
    (s, copy, Ok c.in-Ok.path, points, refl) (subst Says (sym (views-shown c.args.visit.now.schema.now)) c.ask_view_at.ensures) refl

pub returns-in-Err : goal.returns-in-Err
returns-in-Err c =
    let s : State = state c.args.document.now in
    let visit : Visit = visit_of c.args.visit.now in
    let refused = rw c.in-Err.is at c.in_ok-path.ensures in
    let copy : IsCopy visit.types (snapshot_of c.args.document.now) s = record { document = c.requires; shows = refl } in
    (stays s refused.0, (s, copy, Err refused.0, refused.1, refl), refused.2, refl)
