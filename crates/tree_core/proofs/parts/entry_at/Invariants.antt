-- No entry so far has the key.
use Rattle.std.proofs.Common.{◌≡◌, drop}
use Rattle.edit_core.specs.Template.{entry_at}
use Rattle.node_core.specs.View.{fields}
use Rattle.tree_core.proofs.parts.entry_at.Given as goal

abbrev pub invariant-loop-entry : goal.invariant-loop-entry
invariant-loop-entry l = entry_at l.key (fields (drop l.entry-index l.entries)) ≡ entry_at l.key (fields l.entries)
