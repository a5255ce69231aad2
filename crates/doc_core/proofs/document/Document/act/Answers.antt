use Rattle.std.proofs.Common.{sym, subst}
use Rattle.snap_core.specs.View.{items_view}
use Rattle.type_table.specs.Table.{Catalog}
use Rattle.tree_core.specs.State.{State}
use Rattle.answer_ops.specs.View.{answers_of}
use Rattle.eval_core.specs.Answer.{AnswerList}
use Rattle.expr_core.specs.Schema.{behaviours_shown}
use Rattle.live_tree.specs.Contents.{Contents, state}
use Rattle.action_core.specs.Behaving.{Callee}
use Rattle.doc_core.specs.Acting.{run_of}
use Rattle.doc_core.specs.Documents.{IsDocument}
use Rattle.doc_core.proofs.ActStages.{IsPlainly, act-stages, act-takes, given-plain, run-plain, run-staged, run-typed}
use Rattle.doc_core.proofs.document.Document.act.Goals as goal

pub act_on-requires : goal.act_on-requires
act_on-requires g c = given-plain (items_view c.args.args.now) (answers_of c.in_ok-args.args) c.in_ok-args.ensures c.requires.plain

pub returns-clause-outcome : goal.returns-clause-outcome
returns-clause-outcome g c =
    let schema = c.args.schema.now in
    let s : State = state c.self.inside.tree in
    rw (← c.self.view_is) (act-stages schema.types (behaviours_shown schema) c.args.path.now c.args.name.now (items_view c.args.args.now) s c.in_ok-place.place c.in_ok-place.ensures
    c.in-Some.node c.in-Some.ensures (answers_of c.in_ok-args.args) c.in_ok-args.ensures (state c.act_on.new.tree) c.act_on.result c.act_on.ensures.outcome)

pub returns-clause-ticks : goal.returns-clause-ticks
returns-clause-ticks g c =
    let schema = c.args.schema.now in
    let s : State = state c.self.inside.tree in
    rw (← c.self.view_is) (act-takes schema.types (behaviours_shown schema) c.args.path.now c.args.name.now (items_view c.args.args.now) s c.in_ok-place.place c.in_ok-place.ensures
    c.in-Some.node c.in-Some.ensures (answers_of c.in_ok-args.args) c.in_ok-args.ensures c.args.steps.now c.act_on.new.steps c.act_on.result c.act_on.ensures.ticks)

pub returns-clause-staged : goal.returns-clause-staged
returns-clause-staged g c =
    let schema = c.args.schema.now in
    let types : Catalog = schema.types in
    let s : State = state c.self.inside.tree in
    let given : AnswerList = answers_of c.in_ok-args.args in
    let callee : Callee = record { node = c.in-Some.node; name = c.args.name.now; given = given } in
    let Documents : Contents → Type 0 = λ t. IsDocument types (state t) in
    let document : IsDocument types s = subst Documents (sym c.self.view_is) c.requires.document in
    let plainly : IsPlainly schema s = record { value = c.all_is_plain.ensures.value; views = c.all_is_plain.ensures.views; actions = c.all_is_plain.ensures.actions } in
    let typed = run-typed schema s callee document plainly (given-plain (items_view c.args.args.now) given c.in_ok-args.ensures c.requires.plain) in
    rw (← c.self.view_is) (run-staged types document.sound (run_of types (behaviours_shown schema) callee s) typed s (state c.act_on.new.tree) c.act_on.result
    c.act_on.ensures.outcome c.act_on.ensures.kept)

pub returns-clause-plain : goal.returns-clause-plain
returns-clause-plain g c =
    let schema = c.args.schema.now in
    let types : Catalog = schema.types in
    let s : State = state c.self.inside.tree in
    let given : AnswerList = answers_of c.in_ok-args.args in
    let callee : Callee = record { node = c.in-Some.node; name = c.args.name.now; given = given } in
    let Documents : Contents → Type 0 = λ t. IsDocument types (state t) in
    let document : IsDocument types s = subst Documents (sym c.self.view_is) c.requires.document in
    let plainly : IsPlainly schema s = record { value = c.all_is_plain.ensures.value; views = c.all_is_plain.ensures.views; actions = c.all_is_plain.ensures.actions } in
    let typed = run-typed schema s callee document plainly (given-plain (items_view c.args.args.now) given c.in_ok-args.ensures c.requires.plain) in
    run-plain types document.sound (run_of types (behaviours_shown schema) callee s) typed (state c.act_on.new.tree) c.act_on.result c.act_on.ensures.outcome
