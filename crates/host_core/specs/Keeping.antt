-- Words of private clauses: what is staged is kept once its reply is made.
use Rattle.std.specs.Prelude.{◌≡◌, List, ℕ, Bool, None, Result, Ok, Err, OnOk, OnErr}
use Rattle.snap_core.specs.Value.{Value}
use Rattle.type_table.specs.Table.{Catalog}
use Rattle.type_core.specs.Making.{Outcome}
use Rattle.tree_core.specs.State.{State}
use Rattle.http_front.specs.Reply.{printed}
use Rattle.doc_core.specs.Acting.{Acted}
use Rattle.doc_core.specs.Documents.{IsDocument}
use Rattle.doc_core.specs.Staging.{StagesAct, IsAsBefore, IsStagedAfter}
use Rattle.doc_core.specs.declared.document.Staged.{Staged}
use Rattle.doc_core.specs.declared.error.DocError.{DocError}
use Rattle.host_core.specs.Answering.{Done}

-- a change is an action without a refusal beside its patches
abbrev pub unrefused : Outcome State → Outcome Acted
unrefused (Ok after) = Ok (record { after = after; fault = None })
unrefused (Err refusal) = Err refusal

-- a document before a request, and what the request comes to there
pub record Staging : Type 0 where
  pub types : Catalog
  pub before : State
  pub outcome : Outcome Acted

-- a request was staged, or wasn't
pub record IsStaged (s : Staging) (result : Result Staged DocError) (now : State) : Type 0 where
  pub document : IsDocument s.types s.before
  pub stages : StagesAct result s.outcome now
  pub staged : OnOk result (IsStagedAfter s.types s.before now)
  pub unchanged : OnErr result (IsAsBefore s.before now)

-- the bytes of the reply, and what the document shows after it
pub record IsKept (close : Bool) (done : Done) (bytes : List ℕ) (snapshot : Value) : Type 0 where
  pub bytes_are : bytes ≡ printed close done.reply
  pub shows : snapshot ≡ done.snapshot
