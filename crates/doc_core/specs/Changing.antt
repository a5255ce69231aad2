-- What requests make of a document's labelled snapshot, or the first rule that they don't meet.
use Rattle.std.specs.Prelude.{List, [], ◌∷◌, Option, Some, None, Ok}
use Rattle.snap_core.specs.Value.{Value}
use Rattle.pointer_core.specs.Path.{Path}
use Rattle.pointer_core.specs.declared.refusal.Rule.TheVariants as rule
use Rattle.patch_core.specs.declared.patch.Patch.{Patch}
use Rattle.type_table.specs.Table.{Catalog}
use Rattle.type_core.specs.Making.{Outcome, making}
use Rattle.type_core.specs.Doubled.{identifiers_of, doubled_of}
use Rattle.edit_core.specs.Labelled.{Label}
use Rattle.edit_core.specs.Typing.{label_of}
use Rattle.tree_core.specs.declared.place.Place.TheVariants as place
use Rattle.tree_core.specs.Listing.{node}
use Rattle.tree_core.specs.Outcome.{◌>>=◌, refuse, or_refuse}
use Rattle.tree_core.specs.Recorded.{after_list, after_settling, after_write, new_tree, state_of}
use Rattle.tree_core.specs.State.{State, committed}
use Rattle.tree_core.specs.TypesTyping.{root_type}
use Rattle.tree_core.specs.Write.{set}
use Rattle.tree_core.specs.Writing.{Target}

-- a value, where no identifier stands twice in it
abbrev pub unless_twice : Option Path → Value → Outcome Value
unless_twice (Some second) v = refuse second rule.Identifier
unless_twice None v = Ok v

-- what the root's model makes of a value, where no identifier stands twice in that
abbrev pub tried : Catalog → Value → Outcome Value
tried types given = do
  made ← making types (root_type types) (Some given)
  unless_twice (doubled_of (identifiers_of types made)) made

-- a new document: the value that was made, with new nodes, settled
abbrev pub created : Catalog → Value → Outcome State
created types given = do
  made ← tried types given
  Ok (committed (after_settling types (state_of (new_tree types made))))

-- a document changed by patches, each in turn or none, and then settled
abbrev pub patched : Catalog → List Patch → State → Outcome State
patched types patches s = do
  changed ← after_list types patches s
  Ok (after_settling types changed)

-- the root acts on itself as a whole
abbrev pub whole_root : Label → Target
whole_root root = record {
  running = node root.number ∷ [];
  place = place.Whole (node root.number);
  named = None;
}

abbrev pub root_written : Catalog → Value → State → Outcome State
root_written types given s = do
  root ← or_refuse (label_of s.tree) [] rule.Path
  after_write types (whole_root root) (set given) s

-- a document with another snapshot written in the place of its own, and then settled
abbrev pub replaced : Catalog → Value → State → Outcome State
replaced types given s = do
  changed ← root_written types given s
  Ok (after_settling types changed)
