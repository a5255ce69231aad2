use Rattle.tree_core.specs.State.{State}
use Rattle.live_tree.specs.Contents.{state}
use Rattle.live_tree.specs.Laws.{CanBeTakenBack}
use Rattle.live_tree.proofs.TakenBack.{kept-together}
use Rattle.doc_core.proofs.Stages.{as-given-back}
use Rattle.doc_core.proofs.staging.settle.Goals as goal

pub returns-clause-unchanged : goal.returns-clause-unchanged
returns-clause-unchanged c before same kept =
    let now : State = state c.settle_tree.new.tree in
    let together : CanBeTakenBack before now = kept-together before (state c.args.tree.now) now kept c.settle_tree.ensures.kept in
    as-given-back before now (state c.roll_back.new.self) together (c.roll_back.ensures.back before same together)
