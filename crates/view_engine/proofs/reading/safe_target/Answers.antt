use Rattle.std.proofs.Common.{◌≡◌, true, Some, None, refl, sym, ◌∙◌, ap}
use Rattle.pointer_core.specs.declared.refusal.Rule.{Rule}
use Rattle.type_table.specs.Table.{Table, Catalog}
use Rattle.answer_ops.specs.View.{answer_of}
use Rattle.answer_ops.specs.declared.value.Value.{Value}
use Rattle.view_engine.specs.Progress.{scope_of, whole_in}
use Rattle.view_engine.specs.TreeSight.{value_at_place}
use Rattle.view_engine.specs.Walked.{place_site}
use Rattle.view_engine.proofs.Doing.{given-null, given-node, read-refused_at}
use Rattle.view_engine.proofs.Seeing.{target-null, target-read}
use Rattle.view_engine.proofs.reading.safe_target.Goals as goal

pub returns-in_default : goal.returns-in_default
returns-in_default g c =
    target-null (scope_of g.S.Bodies.says c.args.scope.now) (place_site c.args.place.now) true c.args.m (value_at_place (whole_in g.S.Bodies.says c.args.scope.now) c.args.place.now) (sym c.in_ok-identifier.ensures ∙ c.in_default.is)

pub returns-in-Some-resolve : goal.returns-in-Some-resolve
returns-in-Some-resolve g c =
    target-read (scope_of g.S.Bodies.says c.args.scope.now) (whole_in g.S.Bodies.says c.args.scope.now) (place_site c.args.place.now) true c.args.m (value_at_place (whole_in g.S.Bodies.says c.args.scope.now) c.args.place.now) c.in-Some.identifier c.types.result.now.table (Some c.in-Some-resolve.n) _ refl
    (sym c.in_ok-identifier.ensures ∙ c.in-Some.is) (ap (λ (t : Catalog). t.table) c.types.ensures) c.in-Some-resolve.ensures (given-node c.in-Some-resolve.n)

pub returns : goal.returns
returns g c =
    target-read (scope_of g.S.Bodies.says c.args.scope.now) (whole_in g.S.Bodies.says c.args.scope.now) (place_site c.args.place.now) true c.args.m (value_at_place (whole_in g.S.Bodies.says c.args.scope.now) c.args.place.now) c.in-Some.identifier c.types.result.now.table None _ refl
    (sym c.in_ok-identifier.ensures ∙ c.in-Some.is) (ap (λ (t : Catalog). t.table) c.types.ensures) c.in-None.ensures given-null
