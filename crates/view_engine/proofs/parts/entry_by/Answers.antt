use Rattle.std.proofs.Common.{sym, ◌∙◌, ap, subst}
use Rattle.edit_core.specs.declared.kind.Kind.TheVariants as kind
use Rattle.eval_core.specs.Answer.{plain}
use Rattle.eval_core.specs.Reading.{item_of_kind}
use Rattle.answer_ops.specs.View.{answer_of}
use Rattle.view_engine.specs.Did.{Read}
use Rattle.view_engine.specs.Progress.{scope_of}
use Rattle.snap_core.specs.View.{view}
use Rattle.snap_core.proofs.Views.{view-Text}
use Rattle.view_engine.proofs.parts.entry_by.Goals as goal

pub returns-in-Text : goal.returns-in-Text
returns-in-Text g c = λ t some.
    subst (λ x. Read answer_of c.value_under.result (item_of_kind (scope_of g.S.Bodies.says c.args.scope.now) c.args.n (plain x) (kind.Map t))) (sym (ap view c.in-Text.is ∙ view-Text c.in-Text.key)) (c.value_under.ensures t some)
