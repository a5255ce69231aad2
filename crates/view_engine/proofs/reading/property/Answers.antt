use Rattle.std.proofs.Common.{refl, ◌∙◌, ap}
use Rattle.pointer_core.specs.declared.refusal.Rule.{Rule}
use Rattle.type_table.specs.Table.{Catalog}
use Rattle.answer_ops.specs.View.{answer_of}
use Rattle.answer_ops.specs.declared.value.Value.{Value}
use Rattle.eval_core.specs.Reading.{prop_answer}
use Rattle.view_engine.specs.Progress.{scope_of, whole_in}
use Rattle.view_engine.proofs.Doing.{read-refused}
use Rattle.view_engine.proofs.Seeing.{prop-answered, prop-lost}
use Rattle.view_engine.proofs.reading.property.Goals as goal

pub returns-in-Some : goal.returns-in-Some
returns-in-Some g c =
    prop-answered (scope_of g.S.Bodies.says c.args.scope.now) (whole_in g.S.Bodies.says c.args.scope.now) c.args.n c.args.name.now c.in_ok-copy.field-0 c.types.result.now.table c.in-Some.held c.held_value.result refl
    (c.in_ok-copy.ensures ∙ c.text.ensures.text) (ap (λ (t : Catalog). t.table) c.types.ensures) c.in-Some.ensures c.held_value.ensures

pub returns : goal.returns
returns g c =
    let s = scope_of g.S.Bodies.says c.args.scope.now in
    prop-lost s (whole_in g.S.Bodies.says c.args.scope.now) c.args.n c.args.name.now c.in_ok-copy.field-0 c.types.result.now.table (prop_answer s c.args.n c.args.name.now) _ refl
    (c.in_ok-copy.ensures ∙ c.text.ensures.text) (ap (λ (t : Catalog). t.table) c.types.ensures) c.in-None.ensures (read-refused {T = Value} answer_of s Rule.Kind _ c.refused.ensures)
