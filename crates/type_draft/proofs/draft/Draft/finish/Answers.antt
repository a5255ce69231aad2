use Rattle.std.proofs.Common.{◌≡◌, List, Option, ap, sym, subst, ◌∙◌}
use Rattle.type_table.specs.declared.shape.Shape.{Shape}
use Rattle.type_table.specs.Table.{Table, Plan, plan_of}
use Rattle.type_draft.specs.Faults.{IsFirstFault}
use Rattle.type_draft.proofs.Plans.{same_table}
use Rattle.type_draft.proofs.Drafts.{IfWrong-weaker, no_fault_of}
use Rattle.type_draft.proofs.draft.Draft.finish.Goals as goal

pub returns-clause-faultless : goal.returns-clause-faultless
returns-clause-faultless c = no_fault_of c.finished.result c.finished.ensures.sound

pub returns-clause-wrong : goal.returns-clause-wrong
returns-clause-wrong c =
    let models = c.self.inside.models in
    let made : Table = record { shapes = c.in_ok-shapes.shapes; models = models } in
    let with_shapes : List (Option Shape) → Plan = λ shapes. record { shapes = shapes; models = models } in
    let whole : plan_of made ≡ c.args.self = ap with_shapes c.in_ok-shapes.ensures ∙ c.self.view_is in
    IfWrong-weaker c.finished.result _ _
    (λ t rule first table plan. let P : Table → Type 0 = λ x. IsFirstFault x t.0 rule in subst P (c.in_ok-table.ensures ∙ same_table made table (whole ∙ sym plan)) first)
    c.finished.ensures.wrong
