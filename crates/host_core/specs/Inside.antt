-- Words of private clauses: documents as a host holds them, and how calls on the way to a reply answer.
use Rattle.std.specs.Prelude.{◌≡◌, ℕ, zero, suc, List, [], ◌∷◌, map, All, Bool, false, IsTrue, if◌then◌else◌, Result, Ok, Err}
use Rattle.std.specs.Ordering.{nat_cmp, is_lt}
use Rattle.std.specs.Cmp.Lexicographic.{slice_cmp}
use Rattle.std.specs.Str.{bytes_eq}
use Rattle.snap_core.specs.Unview.{snap_of}
use Rattle.snap_core.specs.Value.{Value}
use Rattle.type_table.specs.Table.{Catalog}
use Rattle.edit_core.specs.Labelled.{bare}
use Rattle.tree_core.specs.State.{State}
use Rattle.live_tree.specs.Contents.{Contents, state}
use Rattle.http_front.specs.Reply.{Reply, printed}
use Rattle.http_front.specs.Request as request
use Rattle.expr_core.specs.Schema.{behaviours_shown}
use Rattle.doc_core.specs.Documents.{IsDocument}
use Rattle.host_core.specs.declared.held.Held.{Held}
use Rattle.host_core.specs.declared.visit.Visit as declared
use Rattle.host_core.specs.Answering.{Done, acting}
use Rattle.host_core.specs.Asking.{Visit, Answer}
use Rattle.host_core.specs.Calling.{Call, CallsIn}
use Rattle.host_core.specs.Docs.{Doc, Docs, AreNamed}
use Rattle.host_core.specs.Host.{Shown}
use Rattle.host_core.specs.Reading.{Read}

-- what a document shows
abbrev pub snapshot_of : Contents → Value
snapshot_of document = bare (state document).tree

-- a document that is held, as it is told
abbrev pub shown_of : Held → Shown
shown_of held = record { name = held.name; snapshot = snap_of (snapshot_of held.document) }

abbrev pub held_doc : Held → Doc
held_doc held = record { name = held.name; snapshot = snapshot_of held.document }

abbrev pub held_docs : List Held → Docs
held_docs docs = map held_doc docs

-- names ascend, and each is a document of the types with nothing staged
pub record AreHeld (types : Catalog) (docs : List Held) : Type 0 where
  pub named : AreNamed (held_docs docs)
  pub documents : All (λ (held : Held). IsDocument types (state held.document)) docs

-- the first document of a name stands at an index
abbrev pub StandsAt : List ℕ → ℕ → List Held → Type 0
StandsAt name at [] = ⊥
StandsAt name zero (held ∷ docs) = IsTrue (bytes_eq name held.name)
StandsAt name (suc at) (held ∷ docs) = (bytes_eq name held.name ≡ false) × StandsAt name at docs

-- where a document of a name goes: before the first whose name comes after it
abbrev pub place_in : List ℕ → List Held → ℕ
place_in name [] = zero
place_in name (held ∷ docs) = if is_lt (slice_cmp nat_cmp name held.name) then zero else suc (place_in name docs)

-- a request as the program has it
abbrev pub visit_of : declared.Visit → Visit
visit_of visit = record { types = visit.schema.now.types; behaviours = behaviours_shown visit.schema.now; request = request.seen visit.request.now }

abbrev pub closes : declared.Visit → Bool
closes visit = visit.request.now.close

-- what was read, or the bytes of the reply to what can't be read
abbrev pub IsRead : {T A : Type 0} → Bool → (T → A) → (Read A → Type 0) → Result T (List ℕ) → Type 0
IsRead close seen P (Ok given) = P (Ok (seen given))
IsRead close seen P (Err bytes) = (reply : Reply) × P (Err reply) × (bytes ≡ printed close reply)

-- the action that a body's value calls, on a document
abbrev pub ActsIn : Visit → Read Value → State → Done → Type 0
ActsIn visit given s done = (call : Read Call) × CallsIn given call × (done ≡ acting visit.types visit.behaviours s call)

-- the bytes of a reply on a document, and what it shows after it
abbrev pub IsDone : Bool → (Done → Type 0) → List ℕ → Value → Type 0
IsDone close Does bytes snapshot = (done : Done) × Does done × (bytes ≡ printed close done.reply) × (snapshot ≡ done.snapshot)

-- the bytes of a reply, and the documents after it
abbrev pub IsAnswered : Bool → (Answer → Type 0) → List ℕ → Docs → Type 0
IsAnswered close Gives bytes docs = (answer : Answer) × Gives answer × (bytes ≡ printed close answer.reply) × (docs ≡ answer.docs)
