-- What judges at the type that is come to, within the steps that are left, judges at the first.
use Rattle.std.proofs.Common.{◌≡◌, ◌-◌, length}
use Rattle.snap_core.specs.View.{view}
use Rattle.type_core.specs.Judging.{judged_by, judged_within}
use Rattle.type_core.proofs.judging.judged_in_steps.Given as goal

abbrev pub invariant-loop-step : goal.invariant-loop-step
invariant-loop-step l =
    (l._step-end ≡ length l.types.shapes)
    × (judged_within l.types (view l.given) (l._step-end - l._step) l.at.0 ≡ judged_by l.types (view l.given) l.fn.t.0)
