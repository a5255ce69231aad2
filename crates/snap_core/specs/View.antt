-- The value that a `Snap` stands for.
use Rattle.std.specs.Prelude.{ℕ, List, [], ◌∷◌, map}
use Rattle.snap_core.specs.Value.{Value, null, boolean, integer, text, list, dict, no_parts, part, no_members, member, Items, Fields}
use Rattle.snap_core.specs.declared.snap.Snap.{Snap, fold-Snap}
use Rattle.snap_core.specs.declared.snap.Snap.TheFolds.{fold-Field}
use Rattle.snap_core.specs.declared.snap.Snap.TheOpen.{Snap-F, Field-F}
use Rattle.snap_core.specs.declared.snap.Field.{Field}

abbrev pub parts_of : List Value → Items
parts_of [] = no_parts
parts_of (v ∷ vs) = part v (parts_of vs)

abbrev pub members_of : List (List ℕ × Value) → Fields
members_of [] = no_members
members_of (m ∷ ms) = member m.0 m.1 (members_of ms)

-- one level, with each value inside already seen as its value
abbrev pub view_step : Snap-F Value (List ℕ × Value) → Value
view_step Snap-F.Null = null
view_step (Snap-F.Bool b) = boolean b
view_step (Snap-F.Int z) = integer z
view_step (Snap-F.Text s) = text s
view_step (Snap-F.List vs) = list tt (parts_of vs)
view_step (Snap-F.Dict ms) = dict tt (members_of ms)

abbrev pub entry_step : Field-F Value (List ℕ × Value) → List ℕ × Value
entry_step f = (f.key, f.value)

abbrev pub view : Snap → Value
view = fold-Snap Value (List ℕ × Value) view_step entry_step

-- the key and the value of a field
abbrev pub entry : Field → List ℕ × Value
entry = fold-Field Value (List ℕ × Value) view_step entry_step

abbrev pub items_view : List Snap → Items
items_view vs = parts_of (map view vs)

abbrev pub fields_view : List Field → Fields
fields_view fs = members_of (map entry fs)
