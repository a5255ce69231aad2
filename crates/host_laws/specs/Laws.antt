-- What holds of documents, whatever requests come.
use Rattle.std.specs.Prelude.{◌≡◌, ◌≢◌, ℕ, List, [], map, All, Some, Ok, Err}
use Rattle.snap_core.specs.Value.{Value, IsPlain}
use Rattle.type_table.specs.Table.{Catalog}
use Rattle.snap_core.specs.declared.number.NodeNo.{NodeNo}
use Rattle.type_core.specs.Making.{Refused}
use Rattle.type_core.specs.Sound.{IsSound}
use Rattle.edit_core.specs.Labelled.{bare}
use Rattle.tree_core.specs.State.{State}
use Rattle.model_syntax.specs.Shown.{ShownBehaviour}
use Rattle.action_core.specs.Laws.{HasAtomic}
use Rattle.action_core.specs.Layers.{layers_of}
use Rattle.action_laws.specs.Schemas.{behaving_by}
use Rattle.doc_core.specs.Acting.{callee_given, node_pointed, run_of}
use Rattle.doc_core.specs.Changing.{created}
use Rattle.doc_core.specs.Documents.{IsCopy}
use Rattle.http_front.specs.Request.{Request}
use Rattle.host_core.specs.Asking.{Visit, Answer, Steps}
use Rattle.host_core.specs.Calling.{Call, Calls}
use Rattle.route_core.specs.Ask.{act, create, well, asked_by}
use Rattle.host_core.specs.Docs.{Docs, AreNamed, find}
use Rattle.host_core.specs.Laws.{Alike, on_doc}
use Rattle.host_core.specs.Sound.{IsPlainSchema, IsRefusalReply}
use Rattle.host_laws.specs.Runs.{IsShort, Runs, AreTold, IsTaken, requests_on, replies_on}
use Rattle.host_laws.specs.Sound.{IsSettledDocument, IsSettledSnapshot, AreSoundDocs}

-- what is made of a plain value
pub record IsWellMade (types : Catalog) (s : State) : Type 0 where
  pub document : IsSettledDocument types s
  pub shows : IsSettledSnapshot types (bare s.tree)

-- A new document is sound and settled, and so is what it shows.
abbrev pub CreatedAreSound : Type 0
CreatedAreSound = (types : Catalog) (given : Value) (s : State) → IsSound types → IsPlain given → created types given ≡ Ok s → IsWellMade types s

-- Where all documents of a plain schema are sound and settled, they are so after every request.
abbrev pub DocumentsStaySound : Type 0
DocumentsStaySound =
    (visit : Visit) (docs : Docs) (answer : Answer) → IsPlainSchema visit.types visit.behaviours → IsShort visit.request.body
    → AreSoundDocs visit.types docs → Steps visit docs answer → AreSoundDocs visit.types answer.docs

-- So are those of a host that begins with none, after each of its requests; and each answer tells what it changed.
abbrev pub RunsStaySound : Type 0
RunsStaySound =
    (types : Catalog) (behaviours : List ShownBehaviour) (requests : List Request) (answers : List Answer) → IsPlainSchema types behaviours
    → All (λ (request : Request). IsShort request.body) requests → Runs types behaviours [] requests answers → AreTold types [] answers

-- What a request gets that makes no document, and what becomes of the document that it is on, goes by this document alone.
abbrev pub OtherRepliesAreOwn : Type 0
OtherRepliesAreOwn =
    (visit : Visit) (docs others : Docs) (answer : Answer) (name : List ℕ)
    → on_doc visit ≡ Some name → asked_by visit.request.method visit.request.path ≢ well (create name)
    → find name others ≡ find name docs → AreNamed docs → AreNamed others → Steps visit docs answer
    → (other : Answer) × Alike name answer other × Steps visit others other

-- Of a host that begins with no documents and refuses nothing for want of room, the requests on one document get what they
-- get of a host that gets them alone.
abbrev pub RunsAreOwn : Type 0
RunsAreOwn =
    (types : Catalog) (behaviours : List ShownBehaviour) (requests : List Request) (answers : List Answer) (name : List ℕ)
    → Runs types behaviours [] requests answers → All IsTaken answers
    → (own : List Answer) × Runs types behaviours [] (requests_on name requests) own
    × (map (λ (answer : Answer). answer.reply) own ≡ replies_on name requests answers)

-- a call of a document runs an action that an atomic middleware surrounds, and the action ends refused
pub record FailsInAtomic (types : Catalog) (behaviours : List ShownBehaviour) (call : Call) (s : State) : Type 0 where
  pub called : NodeNo
  pub refusal : Refused
  pub there : node_pointed types call.path call.name s.tree ≡ Ok called
  pub atomic : HasAtomic (layers_of (behaving_by types behaviours) (callee_given called call.name call.given) s.tree)
  pub refused : (run_of types behaviours (callee_given called call.name call.given) s).outcome ≡ Err refusal

-- documents as they were, and a refusal that holds no patches
pub record LeavesAll (docs : Docs) (answer : Answer) : Type 0 where
  pub same : answer.docs ≡ docs
  pub reply : IsRefusalReply answer.reply

-- A request for an action that ends refused under an atomic middleware leaves all documents as they were, and its reply is a
-- refusal without patches.
abbrev pub FailedAtomicsStay : Type 0
FailedAtomicsStay =
    (visit : Visit) (docs : Docs) (answer : Answer) (name : List ℕ) (snapshot : Value)
    → asked_by visit.request.method visit.request.path ≡ well (act name) → find name docs ≡ Some snapshot → IsSettledSnapshot visit.types snapshot
    → ((call : Call) (s : State) → Calls visit.request.body (Ok call) → IsCopy visit.types snapshot s → FailsInAtomic visit.types visit.behaviours call s)
    → Steps visit docs answer → LeavesAll docs answer
