use Rattle.std.proofs.Common.{◌≡◌, ◌<◌, ◌≤◌, Some, Ok, Err, is_some, w64, to_z, of_z, refl, rules, sym, ◌∙◌, ap, subst}
use Rattle.std.specs.Prelude.{unwrap_or}
use Rattle.pointer_core.specs.declared.refusal.Rule.{Rule}
use Rattle.answer_ops.specs.View.{answer_of}
use Rattle.answer_ops.specs.declared.value.Value.{Value}
use Rattle.view_engine.specs.Did.{Read}
use Rattle.view_engine.specs.Progress.{scope_of, whole_in}
use Rattle.plain_ops.specs.Applied.{index_in}
use Rattle.eval_core.specs.Reading.{of_level, entry_answer, entry_index}
use Rattle.eval_core.specs.Scope.{refused}
use Rattle.view_engine.specs.TreeSight.{level_of}
use Rattle.view_engine.proofs.Doing.{read-refused}
use Rattle.view_engine.proofs.Levels.{level-read}
use Rattle.view_engine.proofs.parts.item_at.Goals as goal

pub returns-in-Some : goal.returns-in-Some
returns-in-Some g c = λ t some.
    let s = scope_of g.S.Bodies.says c.args.scope.now in
    let passed : to_z w64 (of_z w64 c.args.z) ≡ c.args.z = search rules in
    let index : Some c.in-Some.i ≡ index_in c.args.z = c.in-Some.ensures ∙ ap index_in passed in
    subst (λ o. Read answer_of c.item_before_end.result (of_level s c.args.n (λ es. entry_answer s c.args.n (refused s Rule.Index) (entry_index o es)))) index (c.item_before_end.ensures t some)

pub returns-in-None : goal.returns-in-None
returns-in-None g c = λ t some.
    let s = scope_of g.S.Bodies.says c.args.scope.now in
    let passed : to_z w64 (of_z w64 c.args.z) ≡ c.args.z = search rules in
    let index = c.in-None.ensures ∙ ap index_in passed in
    level-read answer_of s (whole_in g.S.Bodies.says c.args.scope.now) c.args.n (level_of (whole_in g.S.Bodies.says c.args.scope.now) c.args.n) (λ es. entry_answer s c.args.n (refused s Rule.Index) (entry_index (index_in c.args.z) es)) _ refl refl
    (subst (λ o. Read {T = Value} answer_of (Err c.refused.result) (entry_answer s c.args.n (refused s Rule.Index) (entry_index o (level_of (whole_in g.S.Bodies.says c.args.scope.now) c.args.n)))) index
    (read-refused {T = Value} answer_of s Rule.Index _ c.refused.ensures))
