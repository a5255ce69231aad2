use Rattle.std.proofs.Common.{Err, refl}
use Rattle.tree_core.specs.State.{State}
use Rattle.live_tree.specs.Contents.{state}
use Rattle.doc_core.specs.Documents.{IsCopy}
use Rattle.host_core.specs.Answering.{stays}
use Rattle.host_core.specs.Inside.{snapshot_of}
use Rattle.host_core.proofs.document.change.Goals as goal

pub returns-in-Err-clause-done : goal.returns-in-Err-clause-done
returns-in-Err-clause-done c =
    let s : State = state c.args.document.now in
    let copy : IsCopy c.args.visit.now.schema.now.types (snapshot_of c.args.document.now) s = record { document = c.requires; shows = refl } in
    let refused = rw c.in-Err.is at c.in_ok-patches.ensures.read in
    (stays s refused.0, (s, copy, Err refused.0, refused.1, refl), refused.2, refl)
