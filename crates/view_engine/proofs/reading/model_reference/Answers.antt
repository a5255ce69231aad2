use Rattle.std.proofs.Common.{sym, ◌∙◌, ap, subst}
use Rattle.answer_ops.specs.View.{answer_of}
use Rattle.view_engine.specs.Did.{Read}
use Rattle.view_engine.specs.Progress.{scope_of}
use Rattle.view_engine.specs.Saying.{member_of}
use Rattle.std.specs.Prelude.{Some}
use Rattle.eval_core.specs.Reading.{of_reference}
use Rattle.view_engine.proofs.reading.model_reference.Goals as goal

pub returns-in-Some-Property : goal.returns-in-Some-Property
returns-in-Some-Property g c =
    let is = ap (λ n. Some (member_of n)) (sym c.in-Some-Property.field-0-is) ∙ c.in-Some-Property.ensures.member in
    subst (λ o. Read answer_of c.property_reference.result (of_reference (scope_of g.S.Bodies.says c.args.scope.now) c.args.n c.args.name.now o)) is c.property_reference.ensures
