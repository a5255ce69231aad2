use Rattle.std.proofs.Common.{◌≡◌, ◌++◌}
use Rattle.edit_core.specs.Labelled.{entries}
use Rattle.node_core.specs.View.{fields}
use Rattle.action_core.specs.Statements as specs
use Rattle.action_steps.proofs.Removing.{entries_left}
use Rattle.action_steps.proofs.clearing.entry_removals.Given as goal

abbrev pub invariant-loop-part : goal.invariant-loop-part
invariant-loop-part l = l.places ++ entries_left l.n l.parts l.part-index ≡ specs.entry_removals l.n (entries (fields l.parts))
