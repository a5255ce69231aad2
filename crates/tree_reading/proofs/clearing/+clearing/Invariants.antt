-- The edits so far, and those of what is left, are all.
use Rattle.std.proofs.Common.{◌≡◌, ◌≤◌, ◌++◌, drop}
use Rattle.edit_core.specs.Labelled.{branches, entries}
use Rattle.node_core.specs.View.{items, fields, edits_of}
use Rattle.tree_core.specs.Settling.{items_settling, entries_settling}
use Rattle.tree_reading.specs.Clearing.{goes_by}
use Rattle.tree_reading.proofs.clearing.+clearing.Given as goal

abbrev pub invariant-array_edits-loop-i : goal.invariant-array_edits-loop-i
invariant-array_edits-loop-i l =
    edits_of l.edits ++ items_settling (goes_by l.by) l.i (branches (items (drop l.i l.parts))) ≡ items_settling (goes_by l.by) 0 (branches (items l.parts))

abbrev pub invariant-record_edits-loop-part : goal.invariant-record_edits-loop-part
invariant-record_edits-loop-part l = record {
  within : l.at ≤ l.part-index;
  made : edits_of l.edits ++ entries_settling (goes_by l.by) l.kind l.at (entries (fields (drop l.part-index l.parts)))
      ≡ entries_settling (goes_by l.by) l.kind 0 (entries (fields l.parts));
}
