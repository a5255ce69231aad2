-- What was served at a door, as a run that the laws of hosts speak of.
use Rattle.std.specs.Prelude.{◌≡◌, List, [], ◌∷◌, All}
use Rattle.expr_core.specs.Schema.{Schema, behaviours_shown}
use Rattle.http_front.specs.Request.{Request}
use Rattle.host_core.specs.Asking.{Answer}
use Rattle.host_core.specs.Docs.{Docs}
use Rattle.host_core.specs.Host.{docs_of}
use Rattle.host_laws.specs.Runs.{IsShort, Runs}
use Rattle.serve_core.specs.declared.plan.ServeEnd.{ServeEnd}
use Rattle.top_call.specs.Answering.{State}
use Rattle.top_call.specs.Run.{Run, IsServed}

-- the documents that the last of these answers left; those before, where there is none
abbrev pub docs_after : Docs → List Answer → Docs
docs_after docs [] = docs
docs_after docs (answer ∷ answers) = docs_after answer.docs answers

-- requests with short bodies, whose answers lead a host of this schema from no documents to this state
pub record IsRunTo (schema : Schema) (last : State) : Type 0 where
  pub requests : List Request
  pub answers : List Answer
  pub short : All (λ (request : Request). IsShort request.body) requests
  pub runs : Runs schema.types (behaviours_shown schema) [] requests answers
  pub docs : docs_of last ≡ docs_after [] answers
  pub same_schema : last.schema ≡ schema

-- However serving a door ended, the state in the end is that of such a run.
abbrev pub ServedIsARun : Type 0
ServedIsARun = (r : Run) (end : ServeEnd) (served : IsServed r end) → IsRunTo served.served.schema served.served.last
