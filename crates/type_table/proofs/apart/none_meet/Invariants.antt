-- No scalar is taken by two of the members passed by, from the last on, and what they take is known.
use Rattle.std.proofs.Common.{length}
use Rattle.type_table.specs.Names.{shape_by}
use Rattle.type_table.specs.Unions as unions
use Rattle.type_table.proofs.ApartLemmas.{ArePassed}
use Rattle.type_table.proofs.apart.none_meet.Given as goal

abbrev pub invariant-loop-t : goal.invariant-loop-t
invariant-loop-t l = ArePassed (λ t. unions.scalars_of l.table (shape_by l.table t.0)) l.members l.rest l.taken

abbrev pub decreases-loop-t : goal.decreases-loop-t
decreases-loop-t l = length l.rest
