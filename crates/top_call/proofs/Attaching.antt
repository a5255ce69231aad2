-- Where the door isn't attached in the end, attaching failed.
use Rattle.std.proofs.Common.{inl, inr, IsTrue, ◌∙◌}
use Rattle.serve_core.specs.Serving.{Serving, ServesAttached, ServesDoor, most_links}
use Rattle.serve_core.specs.declared.plan.ServeEnd.{ServeEnd}
use Rattle.serve_core.specs.declared.plan.ServeEnd.TheVariants as end
use Rattle.serve_core.proofs.Causing.{keeps_links}
use Rattle.top_call.specs.Answering.{State, replies}
use Rattle.top_call.specs.Run.{Run, serving_of, IsServed, FailedToAttach}

-- a door that was attached stays so
stays-attached : (serving : Serving State) (outcome : ServeEnd) → ServesAttached replies serving outcome → IsTrue serving.after.door.is_attached
stays-attached serving outcome serves =
    let between : Serving State = record serving { before = record serving.before { door = serves.attached } } in
    (keeps_links replies (most_links serving.plan) between outcome serves.links).attached ∙ serves.is_attached

pub failed-to-attach : (r : Run) → IsServed r end.Fault → ¬ (IsTrue r.door_after.is_attached) → FailedToAttach r
failed-to-attach r served loose = by served.door where
  by : ServesDoor replies (serving_of r served.served) end.Fault → FailedToAttach r
  by (inl fails) = record { served = served; asks = fails.asks; attached = fails.attached; failed = fails.failed; unanswered = fails.same }
  by (inr serves) = absurd (loose (stays-attached (serving_of r served.served) end.Fault serves))
