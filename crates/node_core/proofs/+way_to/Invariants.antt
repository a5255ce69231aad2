-- The way among what is left, is the way among all.
use Rattle.std.proofs.Common.{◌≡◌, drop}
use Rattle.edit_core.specs.Labelled.{branches, entries}
use Rattle.edit_core.specs.Ways.{way_among_items, way_among_entries}
use Rattle.node_core.specs.View.{items, fields}
use Rattle.node_core.proofs.+way_to.Given as goal

abbrev pub invariant-way::way_among_items-loop-i : goal.invariant-way::way_among_items-loop-i
invariant-way::way_among_items-loop-i l =
    way_among_items l.n.0 l.i (branches (items (drop l.i l.parts))) ≡ way_among_items l.n.0 0 (branches (items l.parts))

abbrev pub invariant-way::way_among_fields-loop-i : goal.invariant-way::way_among_fields-loop-i
invariant-way::way_among_fields-loop-i l =
    way_among_entries l.n.0 l.i (entries (fields (drop l.i l.parts))) ≡ way_among_entries l.n.0 0 (entries (fields l.parts))
