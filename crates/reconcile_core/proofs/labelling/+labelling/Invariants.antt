-- What is done so far, and what is left, are all.
use Rattle.std.proofs.Common.{◌+◌, ◌*◌, drop}
use Rattle.snap_core.specs.Value.{weight_of, parts_weight, members_weight}
use Rattle.snap_core.specs.View.{view, items_view, fields_view}
use Rattle.edit_core.specs.Template.{item_templates, field_templates}
use Rattle.node_core.specs.View.{items, fields}
use Rattle.reconcile_core.specs.Labelling.{rules_of}
use Rattle.reconcile_core.specs.Slots.{slot_values}
use Rattle.reconcile_core.proofs.Labellings.{ItemsSoFar, FieldsSoFar}
use Rattle.reconcile_core.proofs.labelling.+labelling.Given as goal

abbrev pub invariant-label_array-loop-i : goal.invariant-label_array-loop-i
invariant-label_array-loop-i l =
    ItemsSoFar (items l.parts) l.next l.initial.next
    (item_templates (rules_of l.types.table) (items_view (drop l.i l.news)) l.u.0 (drop l.i (slot_values (items l.olds) l.slots)))
    (item_templates (rules_of l.types.table) (items_view l.news) l.u.0 (slot_values (items l.olds) l.slots))

abbrev pub invariant-label_record-loop-i : goal.invariant-label_record-loop-i
invariant-label_record-loop-i l =
    FieldsSoFar (fields l.parts) l.next l.initial.next
    (field_templates (rules_of l.types.table) (fields_view (drop l.i l.news)) l.kind (fields l.olds))
    (field_templates (rules_of l.types.table) (fields_view l.news) l.kind (fields l.olds))

-- what is still to be labelled weighs less at each call
abbrev pub decreases-label_value : goal.decreases-label_value
decreases-label_value l = 2 * weight_of (view l.new.now)

abbrev pub decreases-label_array : goal.decreases-label_array
decreases-label_array l = 2 * parts_weight (items_view l.news.now) + 1

abbrev pub decreases-label_record : goal.decreases-label_record
decreases-label_record l = 2 * members_weight (fields_view l.news.now) + 1
