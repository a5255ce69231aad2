use Rattle.std.proofs.Common.{Some, refl, sym, ◌∙◌, ap, subst}
use Rattle.answer_ops.specs.View.{answer_of}
use Rattle.eval_core.specs.Reading.{keys_of_kind}
use Rattle.view_engine.specs.Did.{Read}
use Rattle.view_engine.specs.Progress.{scope_of, whole_in}
use Rattle.view_engine.proofs.Seeing.{read-alive}
use Rattle.view_engine.proofs.telling.node_keys.Goals as goal

pub returns-in-Some-Map : goal.returns-in-Some-Map
returns-in-Some-Map g c =
    let s = scope_of g.S.Bodies.says c.args.scope.now in
    read-alive answer_of s (whole_in g.S.Bodies.says c.args.scope.now) c.args.n c.in-Some-Map.field-0 (keys_of_kind s c.args.n) _ refl c.in-Some-Map.ensures
    (subst (λ j. Read answer_of c.map_keys.result (keys_of_kind s c.args.n j)) (sym c.in-Some-Map.field-0-is) (c.map_keys.ensures _ (ap Some (sym c.in-Some-Map.field-0-is) ∙ c.in-Some-Map.ensures)))
