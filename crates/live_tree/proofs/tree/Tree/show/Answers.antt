use Rattle.node_core.specs.View.{labelled}
use Rattle.live_tree.proofs.PlainParts.{shown-plainly}
use Rattle.live_tree.proofs.tree.Tree.show.Goals as goal

pub returns-clause-plain : goal.returns-clause-plain
returns-clause-plain c = shown-plainly c.args.path.now (labelled c.self.inside.root) c.show.result c.show.ensures c.self.invariant.well.1
