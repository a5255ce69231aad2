-- What is found in what is left, is found in all.
use Rattle.std.proofs.Common.{◌≡◌, drop}
use Rattle.edit_core.specs.Template.{entry_at}
use Rattle.node_core.specs.View.{fields}
use Rattle.tree_reading.proofs.places.entry_at.Given as goal

abbrev pub invariant-loop-part : goal.invariant-loop-part
invariant-loop-part l = entry_at l.key (fields (drop l.part-index l.parts)) ≡ entry_at l.key (fields l.parts)
