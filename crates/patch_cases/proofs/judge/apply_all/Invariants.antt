-- The value stays plain, and so do the patches that are left.
use Rattle.std.proofs.Common.{drop}
use Rattle.std.specs.Prelude.{All}
use Rattle.snap_core.specs.Value.{IsPlain}
use Rattle.snap_core.specs.View.{view}
use Rattle.patch_cases.proofs.judge.apply_all.Given as goal

abbrev pub invariant-loop-patch : goal.invariant-loop-patch
invariant-loop-patch l = IsPlain (view l.target)
