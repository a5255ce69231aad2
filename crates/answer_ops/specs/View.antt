-- The answer that a `Value` stands for.
use Rattle.std.specs.Prelude.{List, [], ◌∷◌, map}
use Rattle.snap_core.specs.View.{view}
use Rattle.eval_core.specs.Answer.{Answer, AnswerList, plain, node, several, no_answers, answer}
use Rattle.answer_ops.specs.declared.value.Value.{Value, fold-Value}
use Rattle.answer_ops.specs.declared.value.Value.TheOpen.{Value-F}

-- answers in order
abbrev pub answers_from : List Answer → AnswerList
answers_from [] = no_answers
answers_from (x ∷ xs) = answer x (answers_from xs)

-- one level, with each value inside already seen as its answer
abbrev pub answer_step : Value-F Answer → Answer
answer_step (Value-F.Plain v) = plain (view v)
answer_step (Value-F.Node n) = node n
answer_step (Value-F.Several xs) = several (answers_from xs)

abbrev pub answer_of : Value → Answer
answer_of = fold-Value Answer answer_step

abbrev pub answers_of : List Value → AnswerList
answers_of vs = answers_from (map answer_of vs)
