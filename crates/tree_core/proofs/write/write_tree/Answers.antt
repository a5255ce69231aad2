use Rattle.tree_core.specs.Write.{write_of}
use Rattle.tree_core.specs.Written.{changed, target, tree}
use Rattle.tree_core.proofs.PlaceKeeping.{place-plain}
use Rattle.tree_core.proofs.write.write_tree.Goals as goal

pub judge-requires : goal.judge-requires
judge-requires c =
    place-plain c.args.types.now c.root.ensures.sound (target c.args.to.now) (write_of c.args.change.now) (tree c.args.whole.now)
    c.requires.numbered c.requires.plain c.requires.written (changed c.in_ok-made.made) c.in_ok-made.ensures
