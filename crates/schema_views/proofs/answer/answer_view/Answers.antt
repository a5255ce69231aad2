use Rattle.std.proofs.Common.{[], subst, sym}
use Rattle.snap_core.specs.Value.{IsPlain}
use Rattle.snap_core.specs.View.{view}
use Rattle.answer_ops.specs.View.{answer_of}
use Rattle.view_engine.specs.Asks.{telling}
use Rattle.expr_core.specs.Schema.{views_of}
use Rattle.live_tree.specs.Contents.{state}
use Rattle.schema_views.specs.Saying.{saying}
use Rattle.schema_views.specs.Answering.{path_in, run_of}
use Rattle.schema_views.specs.Locating.{asked_of}
use Rattle.schema_views.proofs.PlainBodies.{answer-plain}
use Rattle.schema_views.proofs.PlainTold.{told-plain}
use Rattle.schema_views.proofs.Telling.{told-shown, refusal-handed}
use Rattle.schema_views.proofs.answer.answer_view.Goals as goal

pub returns-in_err-answer-clause-answer : goal.returns-in_err-answer-clause-answer
returns-in_err-answer-clause-answer g c =
    let schema = c.args.schema.now in
    let root = (state c.args.tree.now).tree in
    let outcome = (run_of schema.types (views_of schema) (asked_of c.args.of) root).outcome in
    refusal-handed root (telling (saying schema) c.args.tree.now []) outcome c.in_err-answer.field-0.0 c.from_residual.result c.from_residual.ensures.1 c.in_err-answer.ensures.answer

pub returns-clause-answer : goal.returns-clause-answer
returns-clause-answer g c =
    let schema = c.args.schema.now in
    let root = (state c.args.tree.now).tree in
    let outcome = (run_of schema.types (views_of schema) (asked_of c.args.of) root).outcome in
    told-shown root (telling (saying schema) c.args.tree.now []) outcome (answer_of c.in_ok-answer.answer) (view c.in_ok-show_answer.field-0)
    c.in_ok-answer.ensures.answer c.in_ok-show_answer.ensures

pub returns-clause-plain : goal.returns-clause-plain
returns-clause-plain g c =
    let schema = c.args.schema.now in
    let root = (state c.args.tree.now).tree in
    let x = answer_of c.in_ok-answer.answer in
    subst IsPlain (sym c.in_ok-show_answer.ensures) (told-plain (path_in root) x
    (answer-plain schema.types (views_of schema) (asked_of c.args.of) root x c.values_are_plain.ensures.constants c.values_are_plain.ensures.value c.in_ok-answer.ensures.answer))
