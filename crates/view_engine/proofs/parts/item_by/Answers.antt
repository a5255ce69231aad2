use Rattle.std.proofs.Common.{◌≡◌, rules, w64, to_z, of_z, sym, ◌∙◌, ap, subst}
use Rattle.edit_core.specs.declared.kind.Kind.TheVariants as kind
use Rattle.eval_core.specs.Answer.{plain}
use Rattle.eval_core.specs.Reading.{item_of_kind}
use Rattle.answer_ops.specs.View.{answer_of}
use Rattle.view_engine.specs.Did.{Read}
use Rattle.view_engine.specs.Progress.{scope_of}
use Rattle.snap_core.specs.Value.{integer}
use Rattle.snap_core.specs.View.{view}
use Rattle.snap_core.proofs.Views.{view-Int}
use Rattle.view_engine.proofs.parts.item_by.Goals as goal

pub returns-in-Int : goal.returns-in-Int
returns-in-Int g c = λ t some.
    let passed : to_z w64 (of_z w64 c.in-Int.z) ≡ c.in-Int.z = search rules in
    subst (λ x. Read answer_of c.item_at.result (item_of_kind (scope_of g.S.Bodies.says c.args.scope.now) c.args.n (plain x) (kind.Array t))) (sym (ap view c.in-Int.is ∙ view-Int c.in-Int.z)) (subst (λ z. Read answer_of c.item_at.result (item_of_kind (scope_of g.S.Bodies.says c.args.scope.now) c.args.n (plain (integer z)) (kind.Array t))) passed (c.item_at.ensures t some))
