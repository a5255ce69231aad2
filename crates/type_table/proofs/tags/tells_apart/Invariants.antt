-- The models passed by, from the last on, have literals that differ, and those are known.
use Rattle.std.proofs.Common.{length}
use Rattle.type_table.specs.Unions as unions
use Rattle.type_table.proofs.ApartLemmas.{AreTold}
use Rattle.type_table.proofs.tags.tells_apart.Given as goal

abbrev pub invariant-loop-m : goal.invariant-loop-m
invariant-loop-m l = AreTold (λ m. unions.literal_at l.table l.name m.1) l.models l.rest l.literals

abbrev pub decreases-loop-m : goal.decreases-loop-m
decreases-loop-m l = length l.rest
