-- The models found so far, and those of the members that are left, are all of them.
use Rattle.std.proofs.Common.{◌≡◌, ◌++◌, drop}
use Rattle.type_table.specs.Unions as unions
use Rattle.type_table.proofs.tags.models_of.Given as goal

abbrev pub invariant-loop-t : goal.invariant-loop-t
invariant-loop-t l = l.models ++ unions.models_of l.table (drop l.t-index l.members) ≡ unions.models_of l.table l.members
