-- What is written at a place.
use Rattle.snap_core.specs.Value.{Value, IsPlain}
use Rattle.snap_core.specs.View.{view}
use Rattle.tree_core.specs.declared.place.Change.{Change}
use Rattle.tree_core.specs.declared.place.Change.TheVariants as change

-- A value is set or put in, or what stands there is taken out.
pub data Write : Type 0 where
  set : Value → Write
  insert : Value → Write
  remove : Write

abbrev pub write_of : Change → Write
write_of (change.Set v) = set (view v)
write_of (change.Insert v) = insert (view v)
write_of change.Remove = remove

-- the value that is written, if there is one, is plain
abbrev pub WritesPlain : Write → Type 0
WritesPlain (set v) = IsPlain v
WritesPlain (insert v) = IsPlain v
WritesPlain remove = Unit {0}
