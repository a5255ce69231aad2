-- Several answers as plain values.
use Rattle.std.proofs.Common.{◌≡◌, List, Option, Some, sym, ◌∙◌, ap, subst}
use Rattle.std.specs.Option.{option_map}
use Rattle.std.specs.Prelude.{IfSome}
use Rattle.plain_answers.specs.Plainness.{IsPlainAnswer, ArePlainAnswers}
use Rattle.snap_core.specs.Value.{Items, IsPlain, ArePlain}
use Rattle.snap_core.specs.View.{view, items_view}
use Rattle.snap_core.proofs.Views.{view-List}
use Rattle.answer_ops.proofs.Views.{answer-Several}
use Rattle.snap_core.specs.declared.snap.Snap.{Snap}
use Rattle.snap_core.specs.declared.snap.Snap as snap
use Rattle.answer_ops.specs.View.{answer_of, answers_of}
use Rattle.answer_ops.specs.declared.value.Value as answers
use Rattle.answer_writing.specs.Taking.{plains_in}
use Rattle.answer_writing.proofs.PlainValues.{values-plain}

-- what several plain answers are made of, as a list
pub list-plain : (x : answers.Value) (values : List answers.Value) (made : Option (List Snap)) (items : List Snap) → x ≡ answers.TheVariants.Several values → made ≡ Some items
    → option_map items_view made ≡ plains_in (answers_of values) → IsPlainAnswer (answer_of x) → IsPlain (view (snap.TheVariants.List items))
list-plain x values made items is some same fine =
    let given : ArePlainAnswers (answers_of values) = subst IsPlainAnswer (ap answer_of is ∙ answer-Several values) fine in
    let seen : Some (items_view items) ≡ plains_in (answers_of values) = ap (option_map items_view) (sym some) ∙ same in
    subst IsPlain (sym (view-List items)) (subst (λ o. IfSome o ArePlain) (sym seen) (values-plain (answers_of values) given))
