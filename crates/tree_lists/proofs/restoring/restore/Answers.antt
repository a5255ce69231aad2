use Rattle.tree_core.specs.Written.{tree}
use Rattle.tree_lists.proofs.Answered.{restored-undone, restored-numbered, restored-plain, restored-later}
use Rattle.tree_lists.proofs.restoring.restore.Goals as goal

pub returns-clause-undone : goal.returns-clause-undone
returns-clause-undone c =
    restored-undone c.args.types.now c.args.patches.now (tree c.args.whole.now) c.requires.plain_values c.requires.numbered c.requires.plain c.restore_patches.result c.restore_patches.ensures

pub returns-clause-numbered : goal.returns-clause-numbered
returns-clause-numbered c =
    restored-numbered c.args.types.now c.args.patches.now (tree c.args.whole.now) c.requires.plain_values c.requires.numbered c.requires.plain c.restore_patches.result c.restore_patches.ensures

pub returns-clause-plain : goal.returns-clause-plain
returns-clause-plain c =
    restored-plain c.args.types.now c.args.patches.now (tree c.args.whole.now) c.requires.plain_values c.requires.numbered c.requires.plain c.restore_patches.result c.restore_patches.ensures

pub returns-clause-later : goal.returns-clause-later
returns-clause-later c =
    restored-later c.args.types.now c.args.patches.now (tree c.args.whole.now) c.requires.plain_values c.requires.numbered c.requires.plain c.restore_patches.result c.restore_patches.ensures
