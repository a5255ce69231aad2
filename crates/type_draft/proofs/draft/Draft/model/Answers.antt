use Rattle.std.proofs.Common.{arith}
use Rattle.type_draft.proofs.Plans.{IsBegun-model}
use Rattle.type_draft.proofs.draft.Draft.model.Goals as goal

pub invariant_of-self-2 : goal.invariant_of-self-2
invariant_of-self-2 c =
    rw (c.in_ok-add_model.ensures.ok.0, c.in_ok-add_model.ensures.ok.1)
    (IsBegun-model (record { shapes = c.self.inside.shapes; models = c.self.inside.models })
    (record { name = c.args.name; properties = c.args.properties; own = record { 0 = c.len-2.result } }) c.self.invariant
    c.requires.named (rw (← c.self.view_is) at c.requires.typed) (omega (arith, c.len-2.ensures)))
