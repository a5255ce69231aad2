use Rattle.std.proofs.Common.{ap}
use Rattle.edit_core.specs.Labelled.{bare}
use Rattle.live_tree.specs.Contents.{state}
use Rattle.doc_core.specs.Staging.{IsAsBefore}
use Rattle.host_core.proofs.Kept.{before-document}
use Rattle.host_core.proofs.keeping.keep.Goals as goal

pub returns-in-Err-clause-document : goal.returns-in-Err-clause-document
returns-in-Err-clause-document c s staged =
    let as-before : IsAsBefore s.before (state c.cancel.new.self) = c.cancel.ensures s.before staged.document.at_rest staged.staged.back in
    before-document s.types s.before (state c.cancel.new.self) as-before staged.document

pub returns-in-Err-clause-err : goal.returns-in-Err-clause-err
returns-in-Err-clause-err c s staged = ap bare (c.cancel.ensures s.before staged.document.at_rest staged.staged.back).tree
