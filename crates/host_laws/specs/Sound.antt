-- Documents that are sound and settled, and what they show.
use Rattle.std.specs.Prelude.{All}
use Rattle.snap_core.specs.Value.{Value}
use Rattle.type_table.specs.Table.{Catalog}
use Rattle.tree_core.specs.State.{State}
use Rattle.tree_laws.specs.Tied.{IsSettled}
use Rattle.doc_core.specs.Documents.{IsCopy}
use Rattle.doc_core.specs.Laws.{IsSoundDocument}
use Rattle.host_core.specs.Docs.{Doc, Docs}
use Rattle.host_core.specs.Sound.{IsSoundSnapshot}

-- a sound document in which each safe reference that isn't null leads to a node
pub record IsSettledDocument (types : Catalog) (s : State) : Type 0 where
  pub document : IsSoundDocument types s
  pub settled : IsSettled types s.tree

-- a sound snapshot; in a document that shows it, whatever the numbers of its nodes are, each safe reference that isn't null leads to
-- a node
pub record IsSettledSnapshot (types : Catalog) (v : Value) : Type 0 where
  pub sound : IsSoundSnapshot types v
  pub settled : (s : State) → IsCopy types v s → IsSettled types s.tree

-- each of the documents shows one
abbrev pub AreSoundDocs : Catalog → Docs → Type 0
AreSoundDocs types docs = All (λ (doc : Doc). IsSettledSnapshot types doc.snapshot) docs
