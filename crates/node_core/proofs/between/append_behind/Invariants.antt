-- What is done so far, and what is left, are all.
use Rattle.std.proofs.Common.{◌≡◌, ◌++◌}
use Rattle.edit_core.specs.LoggedBetween.{all_behind}
use Rattle.node_core.specs.View.{turn, edits_of}
use Rattle.node_core.proofs.between.append_behind.Given as goal

abbrev pub invariant-loop-edit : goal.invariant-loop-edit
invariant-loop-edit l = edits_of l.to ≡ edits_of l.initial.to ++ all_behind (turn l.part) (edits_of l.yielded)
