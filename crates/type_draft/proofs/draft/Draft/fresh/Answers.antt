use Rattle.type_draft.proofs.Plans.{IsBegun-fresh}
use Rattle.type_draft.proofs.draft.Draft.fresh.Goals as goal

pub invariant_of-self-2 : goal.invariant_of-self-2
invariant_of-self-2 c =
    rw c.in_ok-push.ensures.ok (IsBegun-fresh (record { shapes = c.self.inside.shapes; models = c.self.inside.models }) c.self.invariant)
