-- What is found in what is left, is found in all.
use Rattle.std.proofs.Common.{◌≡◌, drop}
use Rattle.edit_core.specs.Labelled.{branches, entries}
use Rattle.node_core.specs.View.{items, fields}
use Rattle.tree_reading.specs.Searching.{node_in_items, node_in_entries}
use Rattle.tree_reading.proofs.nodes.+finding.Given as goal

abbrev pub invariant-find_in_items-loop-part : goal.invariant-find_in_items-loop-part
invariant-find_in_items-loop-part l =
    node_in_items l.n.0 (branches (items (drop l.part-index l.parts))) ≡ node_in_items l.n.0 (branches (items l.parts))

abbrev pub invariant-find_in_fields-loop-part : goal.invariant-find_in_fields-loop-part
invariant-find_in_fields-loop-part l =
    node_in_entries l.n.0 (entries (fields (drop l.part-index l.parts))) ≡ node_in_entries l.n.0 (entries (fields l.parts))
