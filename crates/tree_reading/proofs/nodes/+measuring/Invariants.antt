-- How deep it stands in what is left, is how deep it stands in all.
use Rattle.std.proofs.Common.{◌≡◌, drop}
use Rattle.edit_core.specs.Labelled.{branches, entries}
use Rattle.node_core.specs.View.{items, fields}
use Rattle.tree_reading.specs.Searching.{depth_in_items, depth_in_entries}
use Rattle.tree_reading.proofs.nodes.+measuring.Given as goal

abbrev pub invariant-depth_in_items-loop-part : goal.invariant-depth_in_items-loop-part
invariant-depth_in_items-loop-part l =
    depth_in_items l.most l.n.0 (branches (items (drop l.part-index l.parts))) ≡ depth_in_items l.most l.n.0 (branches (items l.parts))

abbrev pub invariant-depth_in_fields-loop-part : goal.invariant-depth_in_fields-loop-part
invariant-depth_in_fields-loop-part l =
    depth_in_entries l.most l.n.0 (entries (fields (drop l.part-index l.parts))) ≡ depth_in_entries l.most l.n.0 (entries (fields l.parts))
