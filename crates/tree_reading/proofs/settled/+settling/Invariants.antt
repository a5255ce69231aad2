-- What is copied so far, and what is left without its loose references, are all.
use Rattle.std.proofs.Common.{◌≡◌, ◌++◌, drop}
use Rattle.edit_core.specs.Labelled.{branches, entries}
use Rattle.node_core.specs.View.{items, fields}
use Rattle.tree_reading.specs.Clearing.{goes_by}
use Rattle.tree_reading.specs.Settled.{settled_items, settled_entries}
use Rattle.tree_reading.proofs.settled.+settling.Given as goal

abbrev pub invariant-settled_items-loop-part : goal.invariant-settled_items-loop-part
invariant-settled_items-loop-part l =
    items l.copy ++ settled_items (goes_by l.by) l.of.0 (branches (items (drop l.part-index l.parts))) ≡ settled_items (goes_by l.by) l.of.0 (branches (items l.parts))

abbrev pub invariant-settled_fields-loop-part : goal.invariant-settled_fields-loop-part
invariant-settled_fields-loop-part l =
    fields l.copy ++ settled_entries (goes_by l.by) l.kind (entries (fields (drop l.part-index l.parts))) ≡ settled_entries (goes_by l.by) l.kind (entries (fields l.parts))
