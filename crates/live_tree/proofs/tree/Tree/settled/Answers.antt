use Rattle.std.proofs.Common.{◌∙◌, ap}
use Rattle.node_core.specs.View.{labelled, edits_of}
use Rattle.live_tree.specs.Contents.{Contents}
use Rattle.live_tree.proofs.SettledTree.{settled_back, settled_well}
use Rattle.live_tree.proofs.tree.Tree.settled.Goals as goal

pub returns-clause-undone : goal.returns-clause-undone
returns-clause-undone c =
    settled_back c.args.types.now (labelled c.self.inside.root) (labelled c.in_ok-value.field-0.value) (edits_of c.in_ok-value.field-0.edits) c.in_ok-value.ensures.edits c.in_ok-value.ensures.value
    ∙ ap (λ (t : Contents). labelled t.root) c.self.view_is

pub returns-clause-well : goal.returns-clause-well
returns-clause-well c =
    settled_well c.args.types.now c.self.inside.next (labelled c.self.inside.root) (labelled c.in_ok-value.field-0.value) c.in_ok-value.ensures.value c.self.invariant.well
