use Rattle.std.proofs.Common.{◌≡◌, ◌<◌, ◌≤◌, Some, Ok, Err, is_some, refl, rules, sym, ◌∙◌, ap, subst}
use Rattle.std.specs.Prelude.{unwrap_or}
use Rattle.pointer_core.specs.declared.refusal.Rule.{Rule}
use Rattle.answer_ops.specs.View.{answer_of}
use Rattle.answer_ops.specs.declared.value.Value.{Value}
use Rattle.view_engine.specs.Did.{Read}
use Rattle.view_engine.specs.Progress.{scope_of, whole_in}
use Rattle.tree_core.specs.Reading.{size_at}
use Rattle.view_engine.proofs.Doing.{read-refused}
use Rattle.view_engine.proofs.Levels.{item-read, item-past}
use Rattle.view_engine.proofs.parts.item_before_end.Goals as goal

pub returns-then-i-len : goal.returns-then-i-len
returns-then-i-len g c = λ t some.
    let within : c.args.i < unwrap_or (size_at c.args.n.0 (whole_in g.S.Bodies.says c.args.scope.now).tree) 0 = search rules in
    item-read (scope_of g.S.Bodies.says c.args.scope.now) (whole_in g.S.Bodies.says c.args.scope.now) c.args.n t c.args.i _ refl some within c.array_item.ensures

pub returns-else-i-len : goal.returns-else-i-len
returns-else-i-len g c = λ t some.
    let past : unwrap_or (size_at c.args.n.0 (whole_in g.S.Bodies.says c.args.scope.now).tree) 0 ≤ c.args.i = search rules in
    item-past (scope_of g.S.Bodies.says c.args.scope.now) (whole_in g.S.Bodies.says c.args.scope.now) c.args.n t c.args.i _ refl some past (read-refused {T = Value} answer_of (scope_of g.S.Bodies.says c.args.scope.now) Rule.Index _ c.refused.ensures)
