-- What walks gather.
use Rattle.std.proofs.Common.{◌≡◌, List, [], ◌∷◌, ◌++◌, map, Result, Ok, Err, refl, sym, ◌∙◌, ap, subst}
use Rattle.pointer_core.specs.declared.refusal.Rule.{Rule}
use Rattle.eval_core.specs.Answer.{Answer, AnswerList, answer, no_answers, several, with_last}
use Rattle.eval_core.specs.Scope.{Scope, judged, gives, at_site}
use Rattle.expr_syntax.specs.Syntax as syntax
use Rattle.eval_core.specs.Operating.{in_bounds}
use Rattle.eval_core.specs.Walking.{Turn, gathered}
use Rattle.answer_ops.specs.View.{answer_of, answers_of}
use Rattle.answer_ops.specs.declared.value.Value.{Value}
use Rattle.answer_ops.specs.declared.value.Value as values
use Rattle.answer_ops.proofs.Views.{answer-Several}
use Rattle.view_engine.specs.declared.halt.Halt.{Halt}
use Rattle.view_engine.specs.declared.gathering.Turn as turn
use Rattle.view_engine.specs.declared.gathering.Gathered.{Gathered}
use Rattle.view_engine.specs.declared.gathering.Gathered.TheVariants as gathered_as
use Rattle.view_engine.specs.Steps.{tested}
use Rattle.view_engine.specs.Did.{Read}
use Rattle.view_engine.specs.Walked.{turn_of, Turns, gathered_of, walk_in}
use Rattle.view_engine.proofs.Doing.{read-lift, read-memory, tested-gives}

pub answers-last : (vs : List Value) (v : Value) → answers_of (vs ++ v ∷ []) ≡ with_last (answers_of vs) (answer_of v)
answers-last [] v = refl
answers-last (w ∷ ws) v = ap (answer (answer_of w)) (answers-last ws v)

-- what was gathered is a turn of the walk
pub read-turns : (s : Scope) (r : Result turn.Turn Halt) (outcome : Result Turn Rule) → Turns r outcome → Read turn_of r (judged s outcome)
read-turns s (Ok t) outcome h = read-lift turn_of (Ok t) (at_site s.here outcome) (ap (at_site s.here) h)
read-turns s (Err halt) outcome h = read-memory turn_of halt (judged s outcome) h

-- what was collected
pub collected-turn : (s : Scope) (before : Gathered) (vs moved : List Value) (x y : Answer) (r : Result turn.Turn Halt) → before ≡ gathered_as.Collect vs → moved ≡ vs
    → Turns r (gathered syntax.collect (several (answers_of moved)) x y) → Read turn_of r (judged s (gathered (walk_in before) (gathered_of before) x y))
collected-turn s before vs moved x y r is same h =
    subst (λ g. Read turn_of r (judged s (gathered (walk_in g) (gathered_of g) x y))) (sym is)
    (read-turns s r (gathered syntax.collect (several (answers_of vs)) x y) (subst (λ ws. Turns r (gathered syntax.collect (several (answers_of ws)) x y)) same h))

-- what was gathered is a result, unless it lies outside the values
pub gathered-tested : (s : Scope) (before : Gathered) (vs moved : List Value) (r : Result Value Halt) → gathered_of before ≡ several (answers_of vs) → moved ≡ vs
    → Read answer_of r (judged s (in_bounds (answer_of (values.Several moved)))) → Read answer_of r (tested s (gives (gathered_of before)))
gathered-tested s before vs moved r is same read =
    let value : answer_of (values.Several moved) ≡ gathered_of before = answer-Several moved ∙ ap (λ ws. several (answers_of ws)) same ∙ sym is in
    tested-gives s (gathered_of before) r (subst (λ x. Read answer_of r (judged s (in_bounds x))) value read)

pub ruleset turns = (read-turns, answers-last)
