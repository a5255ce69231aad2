use Rattle.type_draft.proofs.Plans.{IsBegun-define}
use Rattle.type_draft.proofs.draft.Draft.define.Goals as goal

pub invariant_of-self : goal.invariant_of-self
invariant_of-self c =
    rw c.set.ensures
    (IsBegun-define (record { shapes = c.self.inside.shapes; models = c.self.inside.models }) c.args.t.0 c.args.shape c.self.invariant
    (rw (← c.self.view_is) at c.requires.undefined) (rw (← c.self.view_is) at c.requires.names))
