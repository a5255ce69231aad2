use Rattle.std.proofs.Common.{Err, refl, rules, sym, subst}
use Rattle.pointer_core.specs.declared.refusal.Rule.{Rule}
use Rattle.answer_ops.specs.View.{answer_of}
use Rattle.answer_ops.specs.declared.value.Value.{Value}
use Rattle.eval_core.specs.Reading.{of_kind, size_of_kind}
use Rattle.view_engine.specs.Did.{Read}
use Rattle.view_engine.proofs.Doing.{read-stop, read-refused}
use Rattle.view_engine.proofs.Seeing.{read-dead, read-alive}
use Rattle.view_engine.specs.Progress.{scope_of, whole_in}
use Rattle.view_engine.proofs.Levels.{sized-array, sized-map}
use Rattle.view_engine.proofs.parts.size_of.Goals as goal

pub returns-in-Some-Array : goal.returns-in-Some-Array
returns-in-Some-Array g c = λ y.
    sized-array (scope_of g.S.Bodies.says c.args.scope.now) (whole_in g.S.Bodies.says c.args.scope.now) c.args.n c.in-Some-Array.field-0 _ c.unwrap_or.result _ refl c.in-Some-Array.ensures c.in-Some-Array.field-0-is (search rules) c.counted.ensures

pub returns-in-Some-Map : goal.returns-in-Some-Map
returns-in-Some-Map g c = λ y.
    sized-map (scope_of g.S.Bodies.says c.args.scope.now) (whole_in g.S.Bodies.says c.args.scope.now) c.args.n c.in-Some-Map.field-0 _ c.map_len.result _ refl c.in-Some-Map.ensures c.in-Some-Map.field-0-is c.map_len.ensures c.counted-in-Some-Map.ensures

pub returns-in-None : goal.returns-in-None
returns-in-None g c = λ y.
    let s = scope_of g.S.Bodies.says c.args.scope.now in
    read-stop {T = Value} {U = Value} answer_of answer_of c.refused.result (of_kind s (s.sight.being c.args.n) (size_of_kind s c.args.n)) _
    (read-dead {T = Value} answer_of s (whole_in g.S.Bodies.says c.args.scope.now) c.args.n (size_of_kind s c.args.n) c.refused.result refl c.in-None.ensures c.refused.ensures)

pub returns-in-Some-Model : goal.returns-in-Some-Model
returns-in-Some-Model g c = λ y.
    let s = scope_of g.S.Bodies.says c.args.scope.now in
    let halt = c.refused-in-Some-Model.result in
    read-stop {T = Value} {U = Value} answer_of answer_of halt (of_kind s (s.sight.being c.args.n) (size_of_kind s c.args.n)) _
    (read-alive {T = Value} answer_of s (whole_in g.S.Bodies.says c.args.scope.now) c.args.n c.in-Some-Model.field-0 (size_of_kind s c.args.n) _ refl c.in-Some-Model.ensures
    (subst (λ j. Read {T = Value} answer_of (Err halt) (size_of_kind s c.args.n j)) (sym c.in-Some-Model.field-0-is) (read-refused {T = Value} answer_of s Rule.Kind halt c.refused-in-Some-Model.ensures)))
