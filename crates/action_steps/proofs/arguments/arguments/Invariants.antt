-- What is bound so far, and what is left, are the whole.
use Rattle.std.proofs.Common.{◌≡◌, map, drop}
use Rattle.live_tree.specs.Contents.{state}
use Rattle.answer_ops.specs.View.{answers_of}
use Rattle.action_core.specs.Beginning.{arguments_of}
use Rattle.action_steps.specs.Beginning.{bound_as}
use Rattle.action_steps.proofs.OneByOne.{bound_behind}
use Rattle.action_steps.proofs.arguments.arguments.Given as goal

abbrev pub invariant-loop-i : goal.invariant-loop-i
invariant-loop-i l =
    bound_behind (map bound_as l.given) (arguments_of l.types (state l.tree).tree (drop l.i l.params) (answers_of (drop l.i l.args)))
    ≡ arguments_of l.types (state l.tree).tree l.params (answers_of l.args)
