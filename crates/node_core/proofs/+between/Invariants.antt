-- What is done so far, and what is left, are all.
use Rattle.std.proofs.Common.{◌≡◌, ◌≤◌, ◌++◌, drop, length}
use Rattle.edit_core.specs.LoggedBetween.{logged_one_by_one, logged_in_place, logged_settings}
use Rattle.node_core.specs.View.{items, fields, edits_of}
use Rattle.node_core.specs.Olds.{olds_of, old_fields_of}
use Rattle.node_core.proofs.+between.Given as goal

abbrev pub invariant-item_edits::one_by_one-loop-i : goal.invariant-item_edits::one_by_one-loop-i
invariant-item_edits::one_by_one-loop-i l =
    edits_of l.edits ++ logged_one_by_one l.i (olds_of (drop l.i l.olds)) (items (drop l.i l.news)) ≡ logged_one_by_one 0 (olds_of l.olds) (items l.news)

abbrev pub invariant-item_edits::in_place-loop-i : goal.invariant-item_edits::in_place-loop-i
invariant-item_edits::in_place-loop-i l =
    edits_of l.edits ++ logged_in_place l.i (olds_of (drop l.i l.olds)) (items l.news) ≡ logged_in_place 0 (olds_of l.olds) (items l.news)

abbrev pub invariant-entry_edits::settings-loop-i : goal.invariant-entry_edits::settings-loop-i
invariant-entry_edits::settings-loop-i l =
    (l.from ≤ length l.olds)
    × (edits_of l.edits ++ logged_settings l.at (old_fields_of (drop l.from l.olds)) (fields (drop l.i l.news)) ≡ logged_settings 0 (old_fields_of l.olds) (fields l.news))
