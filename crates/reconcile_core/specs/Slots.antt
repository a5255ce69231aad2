-- Which old item each new one is matched with, by indices.
use Rattle.std.specs.Prelude.{ℕ, List, [], ◌∷◌, map, slice_get, Bool, Option, Some, None}
use Rattle.snap_core.specs.Value.{Value}
use Rattle.edit_core.specs.Labelled.{Labelled}
use Rattle.snap_core.specs.declared.number.TypeNo.{TypeNo}
use Rattle.type_table.specs.Table.{Table}
use Rattle.edit_core.specs.Typing.{seen}
use Rattle.edit_core.specs.Matching.{Slot, same_item}
use Rattle.reconcile_core.specs.RealTypes.{typing_of}

-- the old item at an index, if there is one
abbrev pub slot_value : List Labelled → Option ℕ → Option Labelled
slot_value olds None = None
slot_value olds (Some i) = slice_get olds i

abbrev pub slot_values : List Labelled → List (Option ℕ) → List (Option Labelled)
slot_values olds slots = map (slot_value olds) slots

-- each new item beside the old one that it is matched with
abbrev pub slots_of : List Value → List (Option Labelled) → List Slot
slots_of (v ∷ vs) (old ∷ olds) = record { new = v; old = old } ∷ slots_of vs olds
slots_of _ _ = []

-- whether an old item and a new one of a type are the same
abbrev pub same_in : Table → TypeNo → Labelled → Value → Bool
same_in table t old new = same_item (typing_of table) t.0 (seen old) new
