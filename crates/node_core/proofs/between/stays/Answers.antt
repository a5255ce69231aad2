use Rattle.node_core.proofs.Views.{labelled-Leaf}
use Rattle.node_core.proofs.PlainValues.{told_equal}
use Rattle.node_core.proofs.between.stays.Goals as goal

pub returns-in-Leaf-Leaf : goal.returns-in-Leaf-Leaf
returns-in-Leaf-Leaf c =
    rw (c.in-Leaf-Leaf.is-0, c.in-Leaf-Leaf.is-1, labelled-Leaf c.in-Leaf-Leaf.value, labelled-Leaf c.in-Leaf-Leaf.other) (told_equal c.equal.result c.in-Leaf-Leaf.value c.in-Leaf-Leaf.other c.equal.ensures)
