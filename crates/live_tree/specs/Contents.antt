-- What a tree holds, and the state that it stands for.
use Rattle.std.specs.Prelude.{ℕ, List, map, reverse}
use Rattle.node_core.specs.declared.labelled.Labelled.{Labelled}
use Rattle.node_core.specs.declared.edit.LoggedEdit.{LoggedEdit}
use Rattle.node_core.specs.View.{labelled, edits_of}
use Rattle.tree_core.specs.State.{State}

-- the labelled snapshot, the next number, and the edits of each call since the last commit, in order
pub record Contents : Type 0 where
  pub root : Labelled
  pub next : ℕ
  pub calls : List (List LoggedEdit)

-- the state that a tree stands for
abbrev pub state : Contents → State
state c = record { tree = labelled c.root; next = c.next; calls = reverse (map edits_of c.calls) }
