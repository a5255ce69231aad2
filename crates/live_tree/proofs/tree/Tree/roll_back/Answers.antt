use Rattle.std.proofs.Common.{sym, ap, ◌∙◌, arith}
use Rattle.tree_core.specs.State.{rolled_back}
use Rattle.live_tree.specs.Contents.{state}
use Rattle.live_tree.proofs.RollingBack.{at_mark}
use Rattle.live_tree.proofs.TakenBack.{back-to}
use Rattle.live_tree.proofs.tree.Tree.roll_back.Goals as goal

pub returns-clause-state : goal.returns-clause-state
returns-clause-state c = sym (at_mark c.args.mark.0 (state c.loop-mark.self) (omega (arith, c.mark.ensures.mark))) ∙ c.loop-mark.invariant

pub returns-clause-back : goal.returns-clause-back
returns-clause-back c = λ before same kept.
    sym (at_mark c.args.mark.0 (state c.loop-mark.self) (omega (arith, c.mark.ensures.mark))) ∙ c.loop-mark.invariant
    ∙ ap (λ m. rolled_back m (state c.args.self.now)) same ∙ back-to before (state c.args.self.now) kept
