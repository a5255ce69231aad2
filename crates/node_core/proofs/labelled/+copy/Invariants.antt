-- What is copied so far, and what is left, are the whole.
use Rattle.std.proofs.Common.{◌≡◌, ◌++◌, drop}
use Rattle.node_core.proofs.labelled.+copy.Given as goal

abbrev pub invariant-copy_fields-loop-field : goal.invariant-copy_fields-loop-field
invariant-copy_fields-loop-field l = l.copy ++ drop l.field-index l.fields ≡ l.fields

abbrev pub invariant-copy_items-loop-item : goal.invariant-copy_items-loop-item
invariant-copy_items-loop-item l = l.copy ++ drop l.item-index l.items ≡ l.items
