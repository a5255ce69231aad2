use Rattle.std.proofs.Common.{Ok, sym, ◌∙◌, ap, subst}
use Rattle.answer_ops.specs.View.{answer_of}
use Rattle.view_engine.specs.Did.{Read}
use Rattle.view_engine.specs.Progress.{scope_of}
use Rattle.view_engine.specs.Saying.{member_of}
use Rattle.std.specs.Prelude.{Some}
use Rattle.eval_core.specs.Reading.{of_member}
use Rattle.view_engine.proofs.member.model_lookup.Goals as goal

pub returns-in_ok-property-in-Some-Property-clause-found : goal.returns-in_ok-property-in-Some-Property-clause-found
returns-in_ok-property-in-Some-Property-clause-found g c =
    let is = ap (λ n. Some (member_of n)) (sym c.in-Some-Property.field-0-is) ∙ c.in-Some-Property.ensures.member in
    subst (λ o. Read answer_of (Ok c.in_ok-property-in-Some-Property.field-0) (of_member (scope_of g.S.Bodies.says c.args.scope.now) c.args.n c.args.name.now o)) is c.in_ok-property-in-Some-Property.ensures
