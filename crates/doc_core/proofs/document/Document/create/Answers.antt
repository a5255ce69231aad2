use Rattle.snap_core.specs.View.{view}
use Rattle.type_table.specs.Table.{Catalog}
use Rattle.type_core.specs.Sound.{IsSound}
use Rattle.tree_core.specs.Recorded.{IsTreeOf}
use Rattle.live_tree.specs.Contents.{state}
use Rattle.doc_core.proofs.Stages.{created-by, document-by}
use Rattle.doc_core.proofs.Typed.{settling_typed}
use Rattle.doc_core.proofs.document.Document.create.Goals as goal

pub returns-clause-outcome : goal.returns-clause-outcome
returns-clause-outcome c =
    created-by c.args.schema.now.types (view c.args.given.now) (view c.in_ok-made.made) (state c.in_ok-tree.tree) (state c.settle.new.self) (state c.commit.new.self)
    (rw c.types-types.ensures at c.in_ok-made.ensures.outcome) (rw c.types-types.ensures at c.in_ok-tree.ensures.made)
    (rw c.types-types.ensures at c.in_ok-settle.ensures.ok) c.commit.ensures

pub returns-clause-document : goal.returns-clause-document
returns-clause-document c =
    let types : Catalog = c.args.schema.now.types in
    let sound : IsSound types = rw c.types-types.ensures at c.try_value.ensures.types in
    let typed : IsTreeOf types (state c.in_ok-tree.tree) = rw c.types-types.ensures at c.in_ok-tree.ensures.typed in
    document-by types (state c.in_ok-tree.tree) (state c.settle.new.self) (state c.commit.new.self) sound
    (rw c.types-types.ensures at c.in_ok-settle.ensures.ok) c.commit.ensures (settling_typed types (state c.in_ok-tree.tree) sound typed)
