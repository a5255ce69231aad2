-- What is met with what is left, is met with all.
use Rattle.std.proofs.Common.{◌≡◌, drop}
use Rattle.edit_core.specs.Labelled.{branches, entries}
use Rattle.node_core.specs.View.{items, fields}
use Rattle.tree_core.specs.Settling.{items_met, entries_met}
use Rattle.tree_core.specs.TypesTyping.{typing_of}
use Rattle.tree_reading.proofs.gathering.+gathering.Given as goal

abbrev pub invariant-gather_items-loop-part : goal.invariant-gather_items-loop-part
invariant-gather_items-loop-part l =
    items_met (typing_of l.types.table) l.seen (branches (items (drop l.part-index l.parts))) ≡ items_met (typing_of l.types.table) l.initial.seen (branches (items l.parts))

abbrev pub invariant-gather_record-loop-part : goal.invariant-gather_record-loop-part
invariant-gather_record-loop-part l =
    entries_met (typing_of l.types.table) l.seen (entries (fields (drop l.part-index l.parts))) ≡ entries_met (typing_of l.types.table) l.initial.seen (entries (fields l.parts))
