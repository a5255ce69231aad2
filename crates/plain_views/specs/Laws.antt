-- What holds of views of a tree.
use Rattle.snap_core.specs.Value.{IsPlain}
use Rattle.edit_core.specs.Labelled.{bare}
use Rattle.eval_core.specs.Scope.{Viewing}
use Rattle.plain_answers.specs.Plainness.{IsPlainSight, HasPlainBodies}
use Rattle.plain_answers.specs.Laws.{GivePlainAnswers}
use Rattle.view_engine.specs.TreeSight.{Whole, sight_of}

-- What is seen of a plain tree is plain.
abbrev pub TreeSightsArePlain : Type 0
TreeSightsArePlain = (whole : Whole) → IsPlain (bare whole.tree) → IsPlainSight (sight_of whole)

-- Over a plain tree, views with plain constants answer plain values.
abbrev pub TreesAnswerPlainly : Type 0
TreesAnswerPlainly = (viewing : Viewing) (whole : Whole) → HasPlainBodies viewing → IsPlain (bare whole.tree) → GivePlainAnswers viewing (sight_of whole)
