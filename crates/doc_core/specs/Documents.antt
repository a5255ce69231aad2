-- What a document is: a snapshot whose nodes carry the numbers and the kinds that the types say.
use Rattle.std.specs.Prelude.{◌≡◌, []}
use Rattle.snap_core.specs.Value.{Value}
use Rattle.type_table.specs.Table.{Catalog}
use Rattle.type_core.specs.Sound.{IsSound}
use Rattle.edit_core.specs.Labelled.{bare}
use Rattle.tree_core.specs.Recorded.{IsTreeOf}
use Rattle.tree_core.specs.State.{State}

-- a document between requests: the types have no fault, nothing is staged, each node has the kind that its type gives it, no
-- two nodes have one number, and each number is below the next
pub record IsDocument (types : Catalog) (s : State) : Type 0 where
  pub sound : IsSound types
  pub at_rest : s.calls ≡ []
  pub typed : IsTreeOf types s

-- a document that shows a snapshot, whatever the numbers of its nodes are
pub record IsCopy (types : Catalog) (snapshot : Value) (s : State) : Type 0 where
  pub document : IsDocument types s
  pub shows : bare s.tree ≡ snapshot
