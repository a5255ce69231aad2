-- The literals of a tag, one model after another.
use Rattle.std.specs.Prelude.{◌≡◌, List, ◌∷◌, Bool, true, Option}
use Rattle.std.specs.List.{list_any}
use Rattle.std.specs.Bool.{OnTrue}
use Rattle.snap_core.specs.Value.{Value}
use Rattle.type_table.specs.declared.scalar_set.ScalarSet.{ScalarSet}
use Rattle.type_table.specs.ScalarSets.{has}
use Rattle.type_table.specs.Unions.{is_literal, all_differ}

-- the set has the literals of some models
abbrev pub AreLiterals : ScalarSet → List (Option Value) → Type 0
AreLiterals set literals = (v : Value) → has set v ≡ list_any (is_literal v) literals

-- one more literal differs from those that differ from each other, and then the set has it
pub record AddsLiteral (added : Bool) (literals : ScalarSet) (literal : Option Value) (others : List (Option Value)) : Type 0 where
  pub differ : all_differ others ≡ true → all_differ (literal ∷ others) ≡ added
  pub set : OnTrue added (AreLiterals literals (literal ∷ others))
