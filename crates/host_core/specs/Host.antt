-- What a host is.
use Rattle.std.specs.Prelude.{◌≡◌, ℕ, List, map}
use Rattle.snap_core.specs.View.{view}
use Rattle.snap_core.specs.declared.snap.Snap.{Snap}
use Rattle.expr_core.specs.Schema.{Schema, behaviours_shown}
use Rattle.http_front.specs.Reply.{Reply}
use Rattle.http_front.specs.Request.{Request}
use Rattle.host_core.specs.Docs.{Doc, Docs}
use Rattle.host_core.specs.Asking.{Visit, Steps}

-- a document as it is told: its name and its snapshot
pub record Shown : Type 0 where
  pub name : List ℕ
  pub snapshot : Snap

-- a schema, and documents of it
pub record Hosted : Type 0 where
  pub schema : Schema
  pub shown : List Shown

abbrev pub doc_of : Shown → Doc
doc_of d = record { name = d.name; snapshot = view d.snapshot }

abbrev pub docs_of : Hosted → Docs
docs_of host = map doc_of host.shown

-- a request to documents of a schema
abbrev pub visit_by : Schema → Request → Visit
visit_by schema request = record { types = schema.types; behaviours = behaviours_shown schema; request = request }

-- what a request may get of a host, and the host after it
pub record Replies (host : Hosted) (request : Request) (reply : Reply) (after : Hosted) : Type 0 where
  pub schema : after.schema ≡ host.schema
  pub steps :
      Steps (visit_by host.schema request) (docs_of host)
      (record { reply = reply; docs = docs_of after })
