-- The tags so far are those of the shapes so far.
use Rattle.std.proofs.Common.{◌≡◌, Some, map, take}
use Rattle.type_table.specs.Unions.{tag_in}
use Rattle.type_table.proofs.tagged.Tagged.new.Given as goal

abbrev pub invariant-loop-shape : goal.invariant-loop-shape
invariant-loop-shape l = l.tags ≡ map (λ shape. tag_in l.fn.table (Some shape)) (take l.shape-index l.shape-items)
