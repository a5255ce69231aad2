-- What becomes of a link whose input is whole requests.
use Rattle.std.specs.Prelude.{◌≡◌, ℕ, ◌+◌, ◌≤◌, ◌⊎◌, List, [], ◌∷◌, ◌++◌, length, true, false, ⊤}
use Rattle.http_front.specs.Arrival.{whole, Arrives}
use Rattle.http_front.specs.Reply.{Reply, printed}
use Rattle.http_front.specs.Request.{Request}
use Rattle.link_core.specs.Link.{Replies, asked, most_requests, all_written, Course, IsServed}
use Rattle.link_core.specs.declared.end.LinkEnd.{LinkEnd}
use Rattle.link_core.specs.declared.end.LinkEnd.TheVariants.{End, Closed, Inside, Memory, Fault}

-- the bytes are these requests, each of them whole, one after another
abbrev pub AreRequests : List ℕ → List Request → Type 0
AreRequests bytes [] = bytes ≡ []
AreRequests bytes (request ∷ requests) =
    (one : List ℕ) × (others : List ℕ) × (bytes ≡ one ++ others) × Arrives one (whole request []) × AreRequests others requests

-- no request closes the link but the last
abbrev pub OnlyLastCloses : List Request → Type 0
OnlyLastCloses [] = ⊤
OnlyLastCloses (request ∷ []) = ⊤
OnlyLastCloses (request ∷ (other ∷ requests)) = (request.close ≡ false) × OnlyLastCloses (other ∷ requests)

-- the input of a link: what it brought, and what it still has
pub record Input (came left : List ℕ) (requests : List Request) : Type 0 where
  pub are_requests : AreRequests (came ++ left) requests
  pub few : length requests ≤ most_requests
  pub last_closes : OnlyLastCloses requests

-- all the input was read where the link ended by itself
abbrev pub ReadsAll : LinkEnd → List ℕ → Type 0
ReadsAll End left = left ≡ []
ReadsAll Inside left = left ≡ []
ReadsAll _ left = ⊤

-- the state and how many requests were answered
pub record Progress (S : Type 0) : Type 0 where
  pub state : S
  pub count : ℕ

-- the bytes that were written, and the state in the end
pub record Answered (S : Type 0) : Type 0 where
  pub written : List ℕ
  pub state : S

-- each request gets its reply, one after another
abbrev pub AnswersAll : {S : Type 0} → Replies S → Progress S → List Request → Answered S → Type 0
AnswersAll replies progress [] answered = (answered.written ≡ []) × (answered.state ≡ progress.state)
AnswersAll replies progress (request ∷ requests) answered =
    (reply : Reply) × (next : _) × (rest : List ℕ)
    × replies progress.state (asked progress.count request) reply next
    × (answered.written ≡ printed (asked progress.count request).close reply ++ rest)
    × AnswersAll replies (record { state = next; count = progress.count + 1 }) requests (record answered { written = rest })

-- an end that no fault makes, between requests
abbrev pub EndsWell : LinkEnd → Type 0
EndsWell end = (end ≡ End) ⊎ (end ≡ Closed)

-- Where the input of a link is whole requests, and no fault was counted, each of them gets its reply, in whatever pieces they came; or memory ran
-- out.
abbrev pub LinkCompletes : {S : Type 0} → Replies S → Type 0
LinkCompletes replies =
    (course : Course _) (end : LinkEnd) (served : IsServed replies course end) (left : List ℕ) (requests : List Request)
    → Input served.came left requests → ReadsAll end left → ¬ (end ≡ Fault)
    → (end ≡ Memory)
    ⊎ (EndsWell end
    × AnswersAll replies (record { state = course.before; count = 0 }) requests
    (record { written = all_written served.turns ++ served.tail; state = course.after }))

-- a request as it is asked: as it came, but that it may close the link
abbrev pub IsAsked : Request → Request → Type 0
IsAsked came request = (request ≡ came) ⊎ (request ≡ record came { close = true })

-- the bytes begin with these requests, one after another, each as it is asked
abbrev pub BeginsWithRequests : List ℕ → List Request → Type 0
BeginsWithRequests bytes [] = ⊤
BeginsWithRequests bytes (request ∷ requests) =
    (came : Request) × (rest : List ℕ) × Arrives bytes (whole came rest) × IsAsked came request × BeginsWithRequests rest requests

-- a body has at most 262,144 bytes
abbrev pub HasShortBody : Request → Type 0
HasShortBody request = length request.body ≤ 262144

-- these requests, whose bodies are short, lead from a state to the last, one after another, each by a reply that it may get
abbrev pub RequestsLead : {S : Type 0} → Replies S → S → List Request → S → Type 0
RequestsLead replies state [] last = last ≡ state
RequestsLead replies state (request ∷ requests) last =
    (next : _) × HasShortBody request × ((reply : Reply) × replies state request reply next) × RequestsLead replies next requests last

-- However a link ends, all that became of the state came of requests that its bytes begin with.
abbrev pub LinkLeads : {S : Type 0} → Replies S → Type 0
LinkLeads replies =
    (course : Course _) (end : LinkEnd) (served : IsServed replies course end)
    → (requests : List Request) × BeginsWithRequests served.came requests × RequestsLead replies course.before requests course.after
