use Rattle.tree_core.specs.State.{State}
use Rattle.live_tree.specs.Contents.{state}
use Rattle.live_tree.specs.Laws.{CanBeTakenBack}
use Rattle.live_tree.proofs.TakenBack.{kept-together}
use Rattle.doc_core.proofs.Acts.{still-kept}
use Rattle.doc_core.proofs.acting.act_on.Goals as goal

pub returns-clause-kept : goal.returns-clause-kept
returns-clause-kept g c =
    let before : State = state c.args.tree.now in
    let now : State = state c.settle.new.tree in
    let together : CanBeTakenBack before now = kept-together before (state c.run_on.new.tree) now c.in_ok-fault.ensures.kept c.in_ok-staged.ensures.kept in
    still-kept c.with_fault.result before now (state c.with_fault.new.tree) c.with_fault.ensures.stays together

pub returns-clause-unchanged : goal.returns-clause-unchanged
returns-clause-unchanged g c =
    let before : State = state c.args.tree.now in
    let now : State = state c.settle.new.tree in
    let together : CanBeTakenBack before now = kept-together before (state c.run_on.new.tree) now c.in_ok-fault.ensures.kept c.in_ok-staged.ensures.kept in
    c.with_fault.ensures.unchanged before c.mark-mark.ensures.mark together
