use Rattle.std.proofs.Common.{IfOk, subst}
use Rattle.type_core.specs.Making.{Outcome}
use Rattle.tree_core.specs.State.{State}
use Rattle.live_tree.specs.Contents.{state}
use Rattle.doc_core.specs.Changing.{patched}
use Rattle.host_core.specs.Answering.{Done}
use Rattle.host_core.specs.Inside.{closes, snapshot_of}
use Rattle.host_core.specs.Keeping.{IsKept, Staging, unrefused}
use Rattle.host_core.proofs.Kept.{staged-change, unrefused-done}
use Rattle.host_core.proofs.document.change_by.Goals as goal

pub returns-clause-done : goal.returns-clause-done
returns-clause-done c =
    let before : State = state c.args.document.now in
    let outcome : Outcome State = patched c.args.visit.now.schema.now.types c.args.patches.now before in
    let s : Staging = record { types = c.args.visit.now.schema.now.types; before = before; outcome = unrefused outcome } in
    let Says : Done → Type 0 = λ done. IfOk c.finish.result (λ bytes. IsKept (closes c.args.visit.now) done bytes (snapshot_of c.finish.new.document)) in
    subst Says (unrefused-done before outcome) (c.finish.ensures.done s (record {
      document = c.requires.document;
      stages = staged-change c.apply_patches-outcome.result outcome (state c.apply_patches-outcome.new.self) c.apply_patches-outcome.ensures.outcome;
      staged = c.apply_patches-outcome.ensures.staged;
      unchanged = c.apply_patches-outcome.ensures.unchanged;
    }))

pub returns-clause-document : goal.returns-clause-document
returns-clause-document c =
    let before : State = state c.args.document.now in
    let outcome : Outcome State = patched c.args.visit.now.schema.now.types c.args.patches.now before in
    let s : Staging = record { types = c.args.visit.now.schema.now.types; before = before; outcome = unrefused outcome } in
    c.finish.ensures.document s (record {
      document = c.requires.document;
      stages = staged-change c.apply_patches-outcome.result outcome (state c.apply_patches-outcome.new.self) c.apply_patches-outcome.ensures.outcome;
      staged = c.apply_patches-outcome.ensures.staged;
      unchanged = c.apply_patches-outcome.ensures.unchanged;
    })

pub returns-clause-err : goal.returns-clause-err
returns-clause-err c =
    let before : State = state c.args.document.now in
    let outcome : Outcome State = patched c.args.visit.now.schema.now.types c.args.patches.now before in
    let s : Staging = record { types = c.args.visit.now.schema.now.types; before = before; outcome = unrefused outcome } in
    c.finish.ensures.err s (record {
      document = c.requires.document;
      stages = staged-change c.apply_patches-outcome.result outcome (state c.apply_patches-outcome.new.self) c.apply_patches-outcome.ensures.outcome;
      staged = c.apply_patches-outcome.ensures.staged;
      unchanged = c.apply_patches-outcome.ensures.unchanged;
    })
