-- Where none was added yet, each type so far was tried.
use Rattle.std.proofs.Common.{◌≡◌, ℕ, ◌<◌, true, false}
use Rattle.type_draft.specs.Defaulting.{AreSoFar, unknown_count}
use Rattle.type_core.specs.Sound.{IsTried}
use Rattle.type_draft.proofs.defaults.sweep.Given as goal

abbrev pub invariant-loop-t : goal.invariant-loop-t
invariant-loop-t l = record {
  so_far : AreSoFar l.types l.defaults;
  added : l.added ≡ true → unknown_count l.defaults < unknown_count l.initial.defaults;
  none : l.added ≡ false → l.defaults ≡ l.initial.defaults;
  tried : l.added ≡ false → (k : ℕ) → k < l.t → IsTried l.types l.defaults k;
}
