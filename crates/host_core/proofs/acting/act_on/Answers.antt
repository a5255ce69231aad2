use Rattle.snap_core.specs.View.{items_view}
use Rattle.type_table.specs.Table.{Catalog}
use Rattle.type_core.specs.Making.{Outcome}
use Rattle.expr_core.specs.Schema.{behaviours_shown}
use Rattle.tree_core.specs.State.{State}
use Rattle.live_tree.specs.Contents.{state}
use Rattle.doc_core.specs.Acting.{Acted, acted_on}
use Rattle.host_core.specs.declared.calling.Call.{Call}
use Rattle.host_core.specs.Keeping.{Staging}
use Rattle.host_core.proofs.acting.act_on.Goals as goal

pub returns-clause-done : goal.returns-clause-done
returns-clause-done c =
    let types : Catalog = c.args.visit.now.schema.now.types in
    let before : State = state c.args.document.now in
    let call : Call = c.args.call.now in
    let outcome : Outcome Acted = acted_on types (behaviours_shown c.args.visit.now.schema.now) call.path call.name.now (items_view call.given.now) before in
    let s : Staging = record { types = types; before = before; outcome = outcome } in
    c.finish.ensures.done s (record {
      document = c.requires.document;
      stages = c.act_counted-outcome.ensures.outcome;
      staged = c.act_counted-outcome.ensures.staged;
      unchanged = c.act_counted-outcome.ensures.unchanged;
    })

pub returns-clause-document : goal.returns-clause-document
returns-clause-document c =
    let types : Catalog = c.args.visit.now.schema.now.types in
    let before : State = state c.args.document.now in
    let call : Call = c.args.call.now in
    let outcome : Outcome Acted = acted_on types (behaviours_shown c.args.visit.now.schema.now) call.path call.name.now (items_view call.given.now) before in
    let s : Staging = record { types = types; before = before; outcome = outcome } in
    c.finish.ensures.document s (record {
      document = c.requires.document;
      stages = c.act_counted-outcome.ensures.outcome;
      staged = c.act_counted-outcome.ensures.staged;
      unchanged = c.act_counted-outcome.ensures.unchanged;
    })

pub returns-clause-err : goal.returns-clause-err
returns-clause-err c =
    let types : Catalog = c.args.visit.now.schema.now.types in
    let before : State = state c.args.document.now in
    let call : Call = c.args.call.now in
    let outcome : Outcome Acted = acted_on types (behaviours_shown c.args.visit.now.schema.now) call.path call.name.now (items_view call.given.now) before in
    let s : Staging = record { types = types; before = before; outcome = outcome } in
    c.finish.ensures.err s (record {
      document = c.requires.document;
      stages = c.act_counted-outcome.ensures.outcome;
      staged = c.act_counted-outcome.ensures.staged;
      unchanged = c.act_counted-outcome.ensures.unchanged;
    })
