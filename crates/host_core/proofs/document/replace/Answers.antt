use Rattle.std.proofs.Common.{refl, ap}
use Rattle.snap_core.specs.Value.{Value}
use Rattle.tree_core.specs.State.{State}
use Rattle.live_tree.specs.Contents.{state}
use Rattle.doc_core.specs.Documents.{IsCopy}
use Rattle.host_core.specs.Answering.{replacing, stays}
use Rattle.host_core.specs.Inside.{snapshot_of}
use Rattle.host_core.specs.Reading.{Read}
use Rattle.host_core.proofs.document.replace.Goals as goal

pub returns-in-Err-clause-done : goal.returns-in-Err-clause-done
returns-in-Err-clause-done c =
    let s : State = state c.args.document.now in
    let copy : IsCopy c.args.visit.now.schema.now.types (snapshot_of c.args.document.now) s = record { document = c.requires; shows = refl } in
    let refused = rw c.in-Err.is at c.in_ok-given.ensures.read in
    (stays s refused.0, (s, copy, ap (λ (given : Read Value). replacing c.args.visit.now.schema.now.types s given) refused.1), refused.2, refl)
