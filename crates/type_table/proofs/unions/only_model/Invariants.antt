-- The model found so far, and those of the members that are left, come to the whole.
use Rattle.std.proofs.Common.{◌≡◌, drop}
use Rattle.type_table.specs.Unions as unions
use Rattle.type_table.proofs.Tagging.{only_after}
use Rattle.type_table.proofs.unions.only_model.Given as goal

abbrev pub invariant-loop-t : goal.invariant-loop-t
invariant-loop-t l = only_after l.only (unions.models_of l.table (drop l.t-index l.members)) ≡ unions.only_model (unions.models_of l.table l.members)
