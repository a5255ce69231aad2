-- Marks of where types stand directly.
use Rattle.std.specs.Prelude.{◌≡◌, length}
use Rattle.type_table.specs.declared.standing.Standing.{Standing}
use Rattle.type_table.specs.Table.{Table}
use Rattle.type_table.specs.Identifiers.{property_types, part_types, second_types}
use Rattle.type_table.specs.Marks.{AreMarks}

-- each list of marks has one for each type, and marks just the types that stand so
pub record IsStanding (table : Table) (standing : Standing) : Type 0 where
  pub properties : AreMarks standing.of_property (property_types table.models)
  pub parts : AreMarks standing.of_part (part_types table.shapes)
  pub seconds : AreMarks standing.second (second_types table table.models)
  pub of_property : length standing.of_property ≡ length table.shapes
  pub of_part : length standing.of_part ≡ length table.shapes
  pub second : length standing.second ≡ length table.shapes
