-- The name isn't among those that were looked at.
use Rattle.std.proofs.Common.{◌≡◌, ◌≤◌, length, drop, false}
use Rattle.expr_form.specs.Scope.{is_among}
use Rattle.expr_form.proofs.scope.Scope.has.Given as goal

abbrev pub invariant-loop-left : goal.invariant-loop-left
invariant-loop-left l = (l.left ≤ length l.names) × (is_among (drop l.left l.names) l.name ≡ false)

abbrev pub decreases-loop-left : goal.decreases-loop-left
decreases-loop-left l = l.left
