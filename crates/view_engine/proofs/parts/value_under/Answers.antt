use Rattle.std.proofs.Common.{◌≡◌, ◌<◌, ◌≤◌, Some, Ok, Err, is_some, refl, rules, sym, ◌∙◌, ap, subst}
use Rattle.std.specs.Prelude.{unwrap_or}
use Rattle.pointer_core.specs.declared.refusal.Rule.{Rule}
use Rattle.answer_ops.specs.View.{answer_of}
use Rattle.answer_ops.specs.declared.value.Value.{Value}
use Rattle.view_engine.specs.Did.{Read}
use Rattle.view_engine.specs.Progress.{scope_of, whole_in}
use Rattle.snap_core.specs.Value.{null}
use Rattle.tree_core.specs.declared.place.Place.TheVariants.{Key}
use Rattle.eval_core.specs.declared.site.Site.{Site}
use Rattle.eval_core.specs.Reading.{held_answer}
use Rattle.eval_core.specs.Sight.{holds}
use Rattle.view_engine.specs.TreeSight.{held_there}
use Rattle.view_engine.proofs.Levels.{under-read}
use Rattle.view_engine.proofs.parts.value_under.Goals as goal

pub returns : goal.returns
returns g c = λ t some.
    let s = scope_of g.S.Bodies.says c.args.scope.now in
    let n = c.args.n in
    under-read s (whole_in g.S.Bodies.says c.args.scope.now) n c.args.key.now t _ refl some
    (subst (λ k. Read answer_of c.held_there.result (held_answer s (Site.Entry n k) (unwrap_or (held_there (whole_in g.S.Bodies.says c.args.scope.now) (Key n k)) (holds null)))) c.in_ok-clone_in.ensures c.held_there.ensures)
