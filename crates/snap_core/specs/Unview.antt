-- The `Snap` whose view is a given value.
use Rattle.std.specs.Prelude.{List, [], ◌∷◌}
use Rattle.snap_core.specs.Value.{Value, null, boolean, integer, text, list, dict, no_parts, part, no_members, member, Items, Fields}
use Rattle.snap_core.specs.declared.snap.Snap.{Snap}
use Rattle.snap_core.specs.declared.snap.Snap
use Rattle.snap_core.specs.declared.snap.Field.{Field}

abbrev mutual
  pub snap_of : Value → Snap
  snap_of null = Snap.Null
  snap_of (boolean b) = Snap.Bool b
  snap_of (integer z) = Snap.Int z
  snap_of (text s) = Snap.Text s
  snap_of (list a ps) = Snap.List (items_of ps)
  snap_of (dict a ms) = Snap.Dict (entries_of ms)

  pub items_of : Items → List Snap
  items_of no_parts = []
  items_of (part v ps) = snap_of v ∷ items_of ps

  pub entries_of : Fields → List Field
  entries_of no_members = []
  entries_of (member k v ms) = record { key = k; value = snap_of v } ∷ entries_of ms
