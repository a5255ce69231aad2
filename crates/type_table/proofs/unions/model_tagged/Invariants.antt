-- The member that is looked for is among those that are left.
use Rattle.std.proofs.Common.{◌≡◌, drop}
use Rattle.snap_core.specs.View.{view}
use Rattle.type_table.specs.Unions as unions
use Rattle.type_table.proofs.unions.model_tagged.Given as goal

abbrev pub invariant-loop-t : goal.invariant-loop-t
invariant-loop-t l =
    let v = view l.value in
    unions.tagged l.table (unions.models_of l.table (drop l.t-index l.members)) l.tag v ≡ unions.tagged l.table (unions.models_of l.table l.members) l.tag v
