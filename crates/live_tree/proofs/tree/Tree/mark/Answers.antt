use Rattle.std.proofs.Common.{length, ap, ◌∙◌}
use Rattle.tree_core.specs.State.{mark_of}
use Rattle.live_tree.specs.Contents.{state}
use Rattle.live_tree.specs.Inside.{contents}
use Rattle.live_tree.proofs.Counting.{length_patches}
use Rattle.live_tree.proofs.tree.Tree.mark.Goals as goal

pub returns-clause-mark : goal.returns-clause-mark
returns-clause-mark c =
    c.len.ensures.length ∙ ap length c.self.invariant.logged
    ∙ length_patches (state (contents c.self.inside.root c.self.inside.next c.self.inside.calls.items)) ∙ ap (λ v. mark_of (state v)) c.self.view_is
