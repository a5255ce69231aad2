use Rattle.std.proofs.Common.{◌∙◌, ap, true, false, Ok, refl}
use Rattle.answer_ops.specs.View.{answer_of}
use Rattle.view_engine.specs.Progress.{scope_of}
use Rattle.view_engine.proofs.Courses.{truth-known}
use Rattle.view_engine.proofs.operating.chosen.Goals as goal

pub returns-then-branch : goal.returns-then-branch
returns-then-branch g c = (true, truth-known (scope_of g.S.Bodies.says c.args.scope.now) (answer_of c.args.x.now) c.in_ok-truth.field-0 c.in_ok-truth.ensures ∙ ap Ok c.if-branch.true, refl)

pub returns-else-branch : goal.returns-else-branch
returns-else-branch g c = (false, truth-known (scope_of g.S.Bodies.says c.args.scope.now) (answer_of c.args.x.now) c.in_ok-truth.field-0 c.in_ok-truth.ensures ∙ ap Ok c.if-branch.false, refl)
