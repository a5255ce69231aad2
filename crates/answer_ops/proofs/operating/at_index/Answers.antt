use Rattle.std.proofs.Common.{◌≡◌, rules, ap, sym, ◌∙◌, option_map, Option, Some, None, w64, to_z, of_z, subst}
use Rattle.std.specs.Prelude.{slice_get}
use Rattle.plain_ops.specs.Applied.{index_in}
use Rattle.eval_core.specs.Answer.{Answer, answer_at}
use Rattle.eval_core.specs.Operating.{or_index, answer_under, bounded_outcome}
use Rattle.answer_ops.specs.View.{answer_of, answers_of}
use Rattle.answer_ops.specs.Outcome.{AnswersAs}
use Rattle.answer_ops.proofs.Indices.{answer_at-answers}
use Rattle.answer_ops.proofs.operating.at_index.Goals as goal
use Rattle.answer_ops.proofs.operating.at_index.Goals.{In-Some}

-- what stands at the index
found : (c : In-Some) → (o : Option Answer) → o ≡ option_map answer_of (slice_get c.args.xs.now c.in-Some.index)
    → answer_under (answers_of c.args.xs.now) (index_in c.args.z) ≡ or_index o
found c o e =
    let passed : to_z w64 (of_z w64 c.args.z) ≡ c.args.z = search rules in
    let index : index_in c.args.z ≡ Some c.in-Some.index = ap index_in (sym passed) ∙ sym c.index_of.ensures ∙ c.in-Some.is in
    ap (answer_under (answers_of c.args.xs.now)) index ∙ ap or_index (answer_at-answers c.in-Some.index c.args.xs.now ∙ sym e)

pub returns-in-Some-get : goal.returns-in-Some-get
returns-in-Some-get c =
    let e = found (goal.at.returns-in-Some-get c).In-Some (Some (answer_of c.in-Some-get.x.now)) (ap (option_map answer_of) c.in-Some-get.ensures) in
    rw e c.bounded.ensures

pub returns-in-None : goal.returns-in-None
returns-in-None c =
    let e = found (goal.at.returns-in-None c).In-Some None (ap (option_map answer_of) c.in-None.ensures) in
    ap bounded_outcome e
