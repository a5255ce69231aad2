use Rattle.std.proofs.Common.{◌≡◌, Ok}
use Rattle.snap_core.specs.Value.{IsPlain}
use Rattle.snap_core.specs.View.{view}
use Rattle.type_table.specs.Table.{Catalog}
use Rattle.edit_core.specs.Labelled.{bare}
use Rattle.tree_core.specs.Recorded.{IsTreeOf}
use Rattle.tree_core.specs.State.{State}
use Rattle.live_tree.specs.Contents.{state}
use Rattle.doc_core.specs.Changing.{root_written}
use Rattle.doc_core.proofs.Stages.{stages-by, staged-by, plain-by}
use Rattle.doc_core.proofs.Typed.{settling_typed, root_typed, root_plain}
use Rattle.doc_core.proofs.document.Document.apply_snapshot.Goals as goal

pub returns-clause-outcome : goal.returns-clause-outcome
returns-clause-outcome c =
    let types : Catalog = c.args.schema.now.types in
    let written : State = state c.write_root.new.tree in
    let done : root_written types (view c.args.given.now) (state c.args.self.now) ≡ Ok written = rw (c.types-types.ensures, c.self.view_is) at c.in_ok-write_root.ensures.outcome in
    stages-by types (root_written types (view c.args.given.now) (state c.args.self.now)) written (state c.settle.new.tree) c.settle.result done
    (rw c.types-types.ensures at c.settle.ensures.settled) c.settle.ensures.memory

pub returns-clause-staged : goal.returns-clause-staged
returns-clause-staged c =
    let types : Catalog = c.args.schema.now.types in
    let before : State = state c.args.self.now in
    let written : State = state c.write_root.new.tree in
    let done : root_written types (view c.args.given.now) before ≡ Ok written = rw (c.types-types.ensures, c.self.view_is) at c.in_ok-write_root.ensures.outcome in
    let plain : IsPlain (bare before.tree) = rw c.self.view_is at c.mark-mark.ensures.plain in
    let typed : IsTreeOf types written =
    root_typed types (view c.args.given.now) before written c.requires.document.sound c.requires.document.typed plain c.requires.plain done in
    staged-by types before written (state c.settle.new.tree) c.settle.result (rw c.self.view_is at c.in_ok-write_root.ensures.kept)
    (rw c.types-types.ensures at c.settle.ensures.settled) c.settle.ensures.kept (settling_typed types written c.requires.document.sound typed)

pub returns-clause-plain : goal.returns-clause-plain
returns-clause-plain c =
    let types : Catalog = c.args.schema.now.types in
    let before : State = state c.args.self.now in
    let written : State = state c.write_root.new.tree in
    let done : root_written types (view c.args.given.now) before ≡ Ok written = rw (c.types-types.ensures, c.self.view_is) at c.in_ok-write_root.ensures.outcome in
    let plain : IsPlain (bare before.tree) = rw c.self.view_is at c.mark-mark.ensures.plain in
    plain-by types written (state c.settle.new.tree) c.settle.result (rw c.types-types.ensures at c.settle.ensures.settled)
    (root_plain types (view c.args.given.now) before written c.requires.document.sound c.requires.document.typed plain c.requires.plain c.requires.document.at_rest done)
