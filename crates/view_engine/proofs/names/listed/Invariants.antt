-- What is left binds what all binds.
use Rattle.std.proofs.Common.{◌≡◌, ◌≤◌, length, take}
use Rattle.eval_core.specs.Scope.{bound_in}
use Rattle.view_engine.specs.Names.{bindings_of}
use Rattle.view_engine.proofs.names.listed.Given as goal

abbrev pub invariant-loop-i : goal.invariant-loop-i
invariant-loop-i l = record {
  within : l.i ≤ length l.bindings;
  left : bound_in l.name (bindings_of (take l.i l.bindings)) ≡ bound_in l.name (bindings_of l.bindings);
}

abbrev pub decreases-loop-i : goal.decreases-loop-i
decreases-loop-i l = l.i
