-- Requests one after another, and what their answers tell of the documents.
use Rattle.std.specs.Prelude.{◌≡◌, ◌≢◌, ◌<◌, ◌^◌, ◌⊎◌, ℕ, List, [], ◌∷◌, length, Bool, false, Option, Some, None, if◌then◌else◌}
use Rattle.std.specs.Str.{bytes_eq}
use Rattle.snap_core.specs.Value.{Value}
use Rattle.pointer_core.specs.declared.refusal.Rule.TheVariants.{Full}
use Rattle.type_table.specs.Table.{Catalog}
use Rattle.model_syntax.specs.Shown.{ShownBehaviour}
use Rattle.http_front.specs.Reply.{Reply}
use Rattle.http_front.specs.Request.{Request}
use Rattle.route_core.specs.Ask.{asked_by}
use Rattle.host_replies.specs.Replies.{rule_reply}
use Rattle.host_core.specs.Asking.{Answer, Steps}
use Rattle.host_core.specs.Docs.{Docs, AreNamed, find}
use Rattle.host_core.specs.Laws.{name_asked}
use Rattle.host_core.specs.Sound.{TellsChange}
use Rattle.host_laws.specs.Sound.{AreSoundDocs}

-- a body has so few bytes that a list can hold all patches that it spells
abbrev pub IsShort : List ℕ → Type 0
IsShort body = length body < 2 ^ 31

-- each request gets its answer over the documents that the one before left
abbrev pub Runs : Catalog → List ShownBehaviour → Docs → List Request → List Answer → Type 0
Runs types behaviours docs [] [] = Unit {0}
Runs types behaviours docs (request ∷ requests) (answer ∷ answers) =
    Steps (record { types = types; behaviours = behaviours; request = request }) docs answer × Runs types behaviours answer.docs requests answers
Runs types behaviours docs requests answers = ⊥

-- After an answer each document is sound and settled, and stands once. Where one was there before, it shows what it
-- showed, or the reply has patches that lead from that to what it shows, and whose inverses lead back.
pub record IsTold (types : Catalog) (docs : Docs) (answer : Answer) : Type 0 where
  pub named : AreNamed answer.docs
  pub sound : AreSoundDocs types answer.docs
  pub told : (name : List ℕ) (before after : Value) → find name docs ≡ Some before → find name answer.docs ≡ Some after
      → (after ≡ before) ⊎ TellsChange before (record { reply = answer.reply; snapshot = after })

-- so it is with each of the answers
abbrev pub AreTold : Catalog → Docs → List Answer → Type 0
AreTold types docs [] = Unit {0}
AreTold types docs (answer ∷ answers) = IsTold types docs answer × AreTold types answer.docs answers

-- not refused for want of room
abbrev pub IsTaken : Answer → Type 0
IsTaken answer = answer.reply ≢ rule_reply Full

-- a request is on the document of this name
abbrev pub is_name : List ℕ → Option (List ℕ) → Bool
is_name name (Some other) = bytes_eq other name
is_name name None = false

abbrev pub is_on : List ℕ → Request → Bool
is_on name request = is_name name (name_asked (asked_by request.method request.path))

-- the requests on it, and what is replied to them among others
abbrev pub requests_on : List ℕ → List Request → List Request
requests_on name [] = []
requests_on name (request ∷ requests) = if is_on name request then request ∷ requests_on name requests else requests_on name requests

abbrev pub replies_on : List ℕ → List Request → List Answer → List Reply
replies_on name (request ∷ requests) (answer ∷ answers) =
    if is_on name request then answer.reply ∷ replies_on name requests answers else replies_on name requests answers
replies_on name requests answers = []
