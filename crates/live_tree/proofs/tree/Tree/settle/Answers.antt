use Rattle.std.proofs.Common.{◌∙◌, ap}
use Rattle.tree_core.specs.Changed.{Changed}
use Rattle.tree_core.specs.Recorded.{with_change}
use Rattle.live_tree.specs.Contents.{state}
use Rattle.live_tree.proofs.SettledTree.{settled_goes}
use Rattle.live_tree.proofs.tree.Tree.settle.Goals as goal

pub returns-clause-leads : goal.returns-clause-leads
returns-clause-leads c =
    let before = state c.args.self.now in
    settled_goes c.args.types.now before (state c.record.new.self)
    (c.in_ok-record.ensures.ok ∙ ap (λ (change : Changed). with_change change before) c.in_ok-change.ensures.outcome) c.settled.ensures.plain
