use Rattle.snap_core.specs.View.{items_view}
use Rattle.patch_core.proofs.ReadValues.{read_values, read_ordered, read_plain}
use Rattle.patch_core.proofs.reading.read_items.Goals as goal

pub returns-then-are_spelled-clause-values : goal.returns-then-are_spelled-clause-values
returns-then-are_spelled-clause-values c = read_values c.read_spelled.result (items_view c.args.items.now) c.requires c.read_spelled.ensures.ok

pub returns-then-are_spelled-clause-ordered : goal.returns-then-are_spelled-clause-ordered
returns-then-are_spelled-clause-ordered c = read_ordered c.read_spelled.result (items_view c.args.items.now) c.requires c.read_spelled.ensures.ok

pub returns-then-are_spelled-clause-plain : goal.returns-then-are_spelled-clause-plain
returns-then-are_spelled-clause-plain c = λ plain. read_plain c.read_spelled.result (items_view c.args.items.now) plain c.read_spelled.ensures.ok
