-- What stands beside each type so far judges alike.
use Rattle.type_core.specs.Behind.{AreBehind}
use Rattle.type_core.proofs.followed.ends_for.Given as goal

abbrev pub invariant-loop-t : goal.invariant-loop-t
invariant-loop-t l = AreBehind l.table l.null l.ends
