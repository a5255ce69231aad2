-- What is found in what is left, is found in all.
use Rattle.std.proofs.Common.{◌≡◌, drop}
use Rattle.std.specs.Option.{option_copied}
use Rattle.edit_core.specs.Labelled.{branches, entries}
use Rattle.node_core.specs.View.{items, fields}
use Rattle.tree_core.specs.Reading.{sought_in_items, sought_in_entries}
use Rattle.tree_reading.specs.Seeking.{sought}
use Rattle.tree_reading.proofs.identifiers.+seeking.Given as goal

abbrev pub invariant-seek_in_items-loop-part : goal.invariant-seek_in_items-loop-part
invariant-seek_in_items-loop-part l =
    sought_in_items (sought (option_copied l.name) l.m l.identifier) (branches (items (drop l.part-index l.parts)))
    ≡ sought_in_items (sought (option_copied l.name) l.m l.identifier) (branches (items l.parts))

abbrev pub invariant-seek_in_fields-loop-part : goal.invariant-seek_in_fields-loop-part
invariant-seek_in_fields-loop-part l =
    sought_in_entries (sought (option_copied l.name) l.m l.identifier) (entries (fields (drop l.part-index l.parts)))
    ≡ sought_in_entries (sought (option_copied l.name) l.m l.identifier) (entries (fields l.parts))
