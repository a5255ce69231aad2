use Rattle.std.proofs.Common.{ℕ, ◌+◌, ◌≤◌, sym, subst}
use Rattle.expr_core.specs.Schema.{views_of}
use Rattle.live_tree.specs.Contents.{state}
use Rattle.schema_views.specs.Locating.{asked_of}
use Rattle.doc_core.proofs.Viewed.{viewed-shown, viewed-unanswered, steps-there}
use Rattle.doc_core.proofs.document.Document.view.Goals as goal

pub returns-in_err-answer_view-in-Some-clause-outcome : goal.returns-in_err-answer_view-in-Some-clause-outcome
returns-in_err-answer_view-in-Some-clause-outcome g c =
    let schema = c.args.schema.now in
    let root = (state c.self.inside.tree).tree in
    rw (← c.self.view_is) (viewed-unanswered schema.types (views_of schema) c.args.path.now c.args.name.now root c.in_ok-place.place c.in_ok-place.ensures (asked_of c.in-Some.of) c.in-Some.ensures.there
    c.in_err-answer_view-in-Some.field-0.0 c.from_residual-in_err-answer_view-in-Some.result c.from_residual-in_err-answer_view-in-Some.ensures.1 c.in_err-answer_view-in-Some.ensures.answer)

pub returns-in_err-answer_view-in-Some-clause-ticks : goal.returns-in_err-answer_view-in-Some-clause-ticks
returns-in_err-answer_view-in-Some-clause-ticks g c =
    let schema = c.args.schema.now in
    let root = (state c.self.inside.tree).tree in
    let same = steps-there schema.types (views_of schema) c.args.path.now c.args.name.now root c.in_ok-place.place c.in_ok-place.ensures (asked_of c.in-Some.of) c.in-Some.ensures.there in
    rw (← c.self.view_is) (subst (λ (k : ℕ). c.answer_view.new.steps ≤ c.args.steps.now + k) (sym same) c.answer_view.ensures.ticks)

pub returns-in-Some-clause-outcome : goal.returns-in-Some-clause-outcome
returns-in-Some-clause-outcome g c =
    let schema = c.args.schema.now in
    let root = (state c.self.inside.tree).tree in
    rw (← c.self.view_is) (viewed-shown schema.types (views_of schema) c.args.path.now c.args.name.now root c.in_ok-place.place c.in_ok-place.ensures (asked_of c.in-Some.of) c.in-Some.ensures.there
    c.in_ok-answer_view-in-Some.field-0 c.in_ok-answer_view-in-Some.ensures.answer)

pub returns-in-Some-clause-ticks : goal.returns-in-Some-clause-ticks
returns-in-Some-clause-ticks g c =
    let schema = c.args.schema.now in
    let root = (state c.self.inside.tree).tree in
    let same = steps-there schema.types (views_of schema) c.args.path.now c.args.name.now root c.in_ok-place.place c.in_ok-place.ensures (asked_of c.in-Some.of) c.in-Some.ensures.there in
    rw (← c.self.view_is) (subst (λ (k : ℕ). c.answer_view.new.steps ≤ c.args.steps.now + k) (sym same) c.answer_view.ensures.ticks)
