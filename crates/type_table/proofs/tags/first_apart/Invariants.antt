-- The name that is looked for is among those that are left.
use Rattle.std.proofs.Common.{◌≡◌, List, drop}
use Rattle.std.specs.List.{find}
use Rattle.type_table.specs.declared.shape.Property.{Property}
use Rattle.type_table.specs.Table.{names_of}
use Rattle.type_table.specs.Unions as unions
use Rattle.type_table.proofs.tags.first_apart.Given as goal

abbrev pub invariant-loop-property : goal.invariant-loop-property
invariant-loop-property l =
    let left : List Property = drop l.property-index l.properties in
    find (unions.tells_apart l.table l.models) (names_of left) ≡ find (unions.tells_apart l.table l.models) (names_of l.properties)
