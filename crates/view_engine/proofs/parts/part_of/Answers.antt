use Rattle.std.proofs.Common.{Some, refl, sym, ◌∙◌, ap, subst}
use Rattle.eval_core.specs.Reading.{item_of_kind}
use Rattle.answer_ops.specs.View.{answer_of}
use Rattle.view_engine.specs.Did.{Read}
use Rattle.view_engine.specs.Progress.{scope_of, whole_in}
use Rattle.view_engine.proofs.Seeing.{read-alive}
use Rattle.view_engine.proofs.parts.part_of.Goals as goal

pub returns-in-Some-Array : goal.returns-in-Some-Array
returns-in-Some-Array g c =
    let s = scope_of g.S.Bodies.says c.args.scope.now in
    read-alive answer_of s (whole_in g.S.Bodies.says c.args.scope.now) c.args.n c.in-Some-Array.field-0 (item_of_kind s c.args.n (answer_of c.args.k.now)) _ refl c.in-Some-Array.ensures
    (subst (λ j. Read answer_of c.item_under.result (item_of_kind s c.args.n (answer_of c.args.k.now) j)) (sym c.in-Some-Array.field-0-is)
    (c.item_under.ensures _ (ap Some (sym c.in-Some-Array.field-0-is) ∙ c.in-Some-Array.ensures)))

pub returns-in-Some-Map : goal.returns-in-Some-Map
returns-in-Some-Map g c =
    let s = scope_of g.S.Bodies.says c.args.scope.now in
    read-alive answer_of s (whole_in g.S.Bodies.says c.args.scope.now) c.args.n c.in-Some-Map.field-0 (item_of_kind s c.args.n (answer_of c.args.k.now)) _ refl c.in-Some-Map.ensures
    (subst (λ j. Read answer_of c.entry_under.result (item_of_kind s c.args.n (answer_of c.args.k.now) j)) (sym c.in-Some-Map.field-0-is)
    (c.entry_under.ensures _ (ap Some (sym c.in-Some-Map.field-0-is) ∙ c.in-Some-Map.ensures)))
