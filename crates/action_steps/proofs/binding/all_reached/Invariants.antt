-- What is bound so far, behind what is left, is the whole.
use Rattle.std.proofs.Common.{◌≡◌, map, length}
use Rattle.live_tree.specs.Contents.{state}
use Rattle.eval_core.specs.Asking.{bound_at}
use Rattle.action_core.specs.Beginning.{all_reached}
use Rattle.action_steps.specs.Beginning.{bound_as, seen}
use Rattle.view_engine.specs.Names.{bindings_of}
use Rattle.action_steps.proofs.Reaching.{bound_with}
use Rattle.action_steps.proofs.binding.all_reached.Given as goal

abbrev pub invariant-loop-last : goal.invariant-loop-last
invariant-loop-last l =
    let sight = seen l.types (state l.tree).tree in
    bound_with (all_reached sight (map bound_as l.given)) (bindings_of l.bindings) ≡ bound_with (all_reached sight (map bound_as l.initial.given)) (bound_at sight l.fn.n)

abbrev pub decreases-loop-last : goal.decreases-loop-last
decreases-loop-last l = length l.given
