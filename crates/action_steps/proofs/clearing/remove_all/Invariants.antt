use Rattle.std.proofs.Common.{drop}
use Rattle.live_tree.specs.Contents.{state}
use Rattle.action_steps.specs.Acting.{acting_of}
use Rattle.action_steps.proofs.Statements.{Removes}
use Rattle.action_steps.proofs.clearing.remove_all.Given as goal

abbrev pub invariant-loop-place : goal.invariant-loop-place
invariant-loop-place l = Removes (acting_of l.acting) (drop l.place-index l.places) l.places (state l.fn.tree, state l.tree)
