-- Marks by the types' numbers.
use Rattle.std.specs.Prelude.{◌≡◌, ℕ, List, [], ◌∷◌, slice_get, slice_set, Bool, true, Some}
use Rattle.snap_core.specs.declared.number.TypeNo.{TypeNo}
use Rattle.type_table.specs.Identifiers.{has_number}

-- the marks once each of the types is marked too
abbrev pub marked : List Bool → List TypeNo → List Bool
marked marks [] = marks
marked marks (t ∷ ts) = marked (slice_set marks t.0 true) ts

-- marks of just these types
abbrev pub AreMarks : List Bool → List TypeNo → Type 0
AreMarks marks types = (t : ℕ) (mark : Bool) → slice_get marks t ≡ Some mark → mark ≡ has_number t types
