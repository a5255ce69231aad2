-- What follows of a door that was served.
use Rattle.std.specs.Prelude.{◌≡◌, ℕ, ◌≤◌, ◌⊎◌, List, [], ◌∷◌, ◌++◌, length, map, take, drop, Some, IsTrue, ⊤}
use Rattle.edge_core.specs.Door.{Link, Links, DoorHasFailed, asked_also}
use Rattle.http_front.specs.Request.{Request}
use Rattle.link_core.specs.Laws.{AreRequests, OnlyLastCloses, AnswersAll, RequestsLead}
use Rattle.link_core.specs.Link.{Replies, most_requests}
use Rattle.serve_core.specs.Serving.{Serving, ServesDoor, most_links, port_of}
use Rattle.serve_core.specs.declared.plan.Plan.TheVariants.{Streams}
use Rattle.serve_core.specs.declared.plan.ServeEnd.{ServeEnd}
use Rattle.serve_core.specs.declared.plan.ServeEnd.TheVariants.{Done, Inside, Memory, Fault}

-- the input of a link is these requests, which it takes to the last
pub record IsInput (input : List ℕ) (requests : List Request) : Type 0 where
  pub are_requests : AreRequests input requests
  pub few : length requests ≤ most_requests
  pub last_closes : OnlyLastCloses requests

-- the same of the inputs of some links, one by one
abbrev pub AreInputs : List (List ℕ) → List (List Request) → Type 0
AreInputs [] [] = ⊤
AreInputs (input ∷ inputs) (requests ∷ others) = IsInput input requests × AreInputs inputs others
AreInputs _ _ = ⊥

-- what was written to each of some links, and the state behind the last
pub record AllAnswered (S : Type 0) : Type 0 where
  pub written : List (List ℕ)
  pub state : S

-- each request on each link gets its reply, link after link
abbrev pub AnswersLinks : {S : Type 0} → Replies S → S → List (List Request) → AllAnswered S → Type 0
AnswersLinks replies state [] answered = (answered.written ≡ []) × (answered.state ≡ state)
AnswersLinks replies state (requests ∷ others) answered =
    (bytes : List ℕ) × (next : _) × (rest : List (List ℕ)) × (answered.written ≡ bytes ∷ rest)
    × AnswersAll replies (record { state = state; count = 0 }) requests (record { written = bytes; state = next })
    × AnswersLinks replies next others (record answered { written = rest })

-- the links that come next have these requests, as many as the plan takes
pub record AreGiven {S : Type 0} (serving : Serving S) (links : Links) (requests : List (List Request)) : Type 0 where
  pub told : serving.before.door.links ≡ Some links
  pub inputs : AreInputs (take (most_links serving.plan) links.coming) requests

-- those links were shut, and each of them got the replies to its requests
pub record AreAnswered {S : Type 0} (replies : Replies S) (serving : Serving S) (links : Links) (requests : List (List Request)) : Type 0 where
  pub last : Links
  pub told : serving.after.door.links ≡ Some last
  pub served : List Link
  pub shut : last.shut ≡ links.shut ++ served
  pub coming : last.coming ≡ drop (most_links serving.plan) links.coming
  pub answers :
      AnswersLinks replies serving.before.state requests
      (record { written = map (λ link. link.written) served; state = serving.after.state })

-- Where the links that come next bring whole requests, and the door counts no fault, each request on each of them gets its reply, in whatever
-- pieces it came; or memory ran out.
abbrev pub DoorCompletes : {S : Type 0} → Replies S → Type 0
DoorCompletes replies =
    (serving : Serving _) (end : ServeEnd) (links : Links) (requests : List (List Request))
    → ServesDoor replies serving end → AreGiven serving links requests
    → ¬ (DoorHasFailed serving.before.door serving.after.door)
    → (end ≡ Memory) ⊎ ((end ≡ Done) × AreAnswered replies serving links requests)

-- serving ends by a fault only where the door counted one
abbrev pub FaultsAreCounted : {S : Type 0} → Replies S → Type 0
FaultsAreCounted replies =
    (serving : Serving _) (end : ServeEnd) → ServesDoor replies serving end
    → end ≡ Fault → DoorHasFailed serving.before.door serving.after.door

-- it ends inside a request only at the standard streams
abbrev pub InsideIsOfStreams : {S : Type 0} → Replies S → Type 0
InsideIsOfStreams replies =
    (serving : Serving _) (end : ServeEnd) → ServesDoor replies serving end → end ≡ Inside → serving.plan ≡ Streams

-- the door was asked to attach where the plan says, once, and is attached unless it failed; the count of faults never falls
pub record LeavesDoor {S : Type 0} (serving : Serving S) (end : ServeEnd) : Type 0 where
  pub asked : serving.after.door.asked ≡ asked_also (port_of serving.plan) serving.before.door.asked
  pub attached : (end ≡ Fault) ⊎ IsTrue serving.after.door.is_attached
  pub count : serving.before.door.fault_count ≤ serving.after.door.fault_count

abbrev pub DoorIsLeft : {S : Type 0} → Replies S → Type 0
DoorIsLeft replies = (serving : Serving _) (end : ServeEnd) → ServesDoor replies serving end → LeavesDoor serving end

-- However serving ends, all that became of the state came of requests, one after another.
abbrev pub DoorLeads : {S : Type 0} → Replies S → Type 0
DoorLeads replies =
    (serving : Serving _) (end : ServeEnd) → ServesDoor replies serving end
    → (requests : List Request) × RequestsLead replies serving.before.state requests serving.after.state
