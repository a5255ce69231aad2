use Rattle.std.proofs.Common.{sym, ◌∙◌, ap, subst}
use Rattle.edit_core.specs.declared.kind.Kind.TheVariants as kind
use Rattle.eval_core.specs.Reading.{item_of_kind}
use Rattle.answer_ops.specs.View.{answer_of}
use Rattle.view_engine.specs.Did.{Read}
use Rattle.view_engine.specs.Progress.{scope_of}
use Rattle.answer_ops.proofs.Views.{answer-Plain}
use Rattle.view_engine.proofs.parts.entry_under.Goals as goal

pub returns-in-Plain : goal.returns-in-Plain
returns-in-Plain g c = λ t some.
    subst (λ x. Read answer_of c.entry_by.result (item_of_kind (scope_of g.S.Bodies.says c.args.scope.now) c.args.n x (kind.Map t))) (sym (ap answer_of c.in-Plain.is ∙ answer-Plain c.in-Plain.k)) (c.entry_by.ensures t some)
