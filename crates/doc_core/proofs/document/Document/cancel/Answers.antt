use Rattle.std.proofs.Common.{sym, subst, ◌∙◌}
use Rattle.live_tree.specs.Contents.{Contents, state}
use Rattle.live_tree.specs.Laws.{CanBeTakenBack}
use Rattle.doc_core.proofs.Stages.{as-given-back, mark-at_rest}
use Rattle.doc_core.proofs.document.Document.cancel.Goals as goal

pub returns : goal.returns
returns c before rest kept =
    let Kept : Contents → Type 0 = λ t. CanBeTakenBack before (state t) in
    let there : CanBeTakenBack before (state c.self.inside.tree) = subst Kept (sym c.self.view_is) kept in
    as-given-back before (state c.self.inside.tree) (state c.roll_back.new.self) there
    (c.roll_back.ensures.back before (c.of_commit.ensures ∙ mark-at_rest before rest) there)
