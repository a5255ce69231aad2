-- What tells a plain answer is plain.
use Rattle.snap_core.specs.Value.{IsPlain, ArePlain}
use Rattle.snap_core.specs.declared.number.NodeNo.{NodeNo}
use Rattle.pointer_core.specs.Path.{Path}
use Rattle.eval_core.specs.Answer.{Answer, AnswerList, plain, node, several, no_answers, answer}
use Rattle.plain_answers.specs.Plainness.{IsPlainAnswer, ArePlainAnswers}
use Rattle.schema_views.specs.Answering.{answer_value, answer_values}

mutual
  pub told-plain : (path : NodeNo → Path) (x : Answer) → IsPlainAnswer x → IsPlain (answer_value path x)
  told-plain path (plain v) h = (h, tt, tt)
  told-plain path (node n) h = (tt, tt, tt)
  told-plain path (several xs) h = (all-plain path xs h, tt, tt)

  all-plain : (path : NodeNo → Path) (xs : AnswerList) → ArePlainAnswers xs → ArePlain (answer_values path xs)
  all-plain path no_answers h = tt
  all-plain path (answer x xs) h = (told-plain path x h.0, all-plain path xs h.1)
