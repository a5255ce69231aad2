use Rattle.std.proofs.Common.{◌≡◌, rules, subst}
use Rattle.std.specs.Prelude.{unwrap_or, decimal}
use Rattle.snap_core.specs.Value.{null}
use Rattle.eval_core.specs.declared.site.Site.{Site}
use Rattle.eval_core.specs.Reading.{held_answer}
use Rattle.eval_core.specs.Sight.{holds}
use Rattle.answer_ops.specs.View.{answer_of}
use Rattle.view_engine.specs.Did.{Read}
use Rattle.view_engine.specs.Progress.{scope_of, whole_in}
use Rattle.view_engine.specs.TreeSight.{held_there}
use Rattle.tree_core.specs.declared.place.Place.TheVariants.{Item}
use Rattle.view_engine.proofs.items.array_item.Goals as goal

pub returns-in-Ok : goal.returns-in-Ok
returns-in-Ok g c =
    let n = c.args.n in
    let same : c.in-Ok.i ≡ c.args.i = search rules in
    subst (λ k. Read answer_of c.held_there.result (held_answer (scope_of g.S.Bodies.says c.args.scope.now) (Site.Entry n (decimal k)) (unwrap_or (held_there (whole_in g.S.Bodies.says c.args.scope.now) (Item n k)) (holds null)))) same c.held_there.ensures
