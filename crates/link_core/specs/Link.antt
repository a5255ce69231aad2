-- One link: the requests that its bytes are, what is written for each, and how the link ends.
use Rattle.std.specs.Prelude.{◌≡◌, ℕ, ◌+◌, ◌<◌, ◌⊎◌, List, [], ◌∷◌, ◌++◌, length, Bool, true, false, ◌||◌, ◌==◌, Option, option_map, ⊤}
use Rattle.std.specs.List.{flat_map}
use Rattle.edge_core.specs.Door.{Links, DoorState, DoorHasFailed, BothTold, after_shut}
use Rattle.http_front.specs.Arrival.{Arrival, whole, partial, refused, Arrives}
use Rattle.http_front.specs.Reply.{Reply, printed}
use Rattle.http_front.specs.Request.{Request}
use Rattle.link_core.specs.Exchange.{Told, Exchanges, ExchangesAll}
use Rattle.link_core.specs.Replies.{refusal, memory_reply}
use Rattle.link_core.specs.declared.end.LinkEnd.{LinkEnd}
use Rattle.link_core.specs.declared.end.LinkEnd.TheVariants.{End, Closed, Inside, Memory, Fault}

-- what a request may get in a state: a reply, and the state after it
abbrev pub Replies : Type 0 → Type 1
Replies S = S → Request → Reply → S → Type 0

-- a link takes so many requests, and the last of them closes it
abbrev pub most_requests : ℕ
most_requests = 1000000

-- a request as it is asked where so many were answered before it
abbrev pub asked : ℕ → Request → Request
asked count request = record request { close = request.close || count + 1 == most_requests }

-- where a link stands: the state, and the bytes that came and aren't used
pub record Stand (S : Type 0) : Type 0 where
  pub state : S
  pub bytes : List ℕ

-- one request on a link, and its reply
pub record Turn : Type 0 where
  pub request : Request
  pub reply : Reply

-- what is written for a turn, and for some turns
abbrev pub written_for : Turn → List ℕ
written_for turn = printed turn.request.close turn.reply

abbrev pub all_written : List Turn → List ℕ
all_written turns = flat_map written_for turns

-- the turn answers the request that the bytes begin with, and the link goes on behind it
pub record Takes {S : Type 0} (replies : Replies S) (before : Stand S) (turn : Turn) (after : Stand S) : Type 0 where
  pub arrives : Arrives before.bytes (whole turn.request after.bytes)
  pub gets : replies before.state turn.request turn.reply after.state
  pub stays : turn.request.close ≡ false

-- some turns, one after another
abbrev pub Turns : {S : Type 0} → Replies S → Stand S → List Turn → Stand S → Type 0
Turns replies before [] after = after ≡ before
Turns replies before (turn ∷ turns) after =
    (next : Stand _) × Takes replies before turn next × Turns replies next turns after

-- what is to be written next, and the state after it
pub record Due (S : Type 0) : Type 0 where
  pub bytes : List ℕ
  pub state : S

-- where a link stands, and how many of its requests were answered
pub record Point (S : Type 0) : Type 0 where
  pub stand : Stand S
  pub count : ℕ

-- the reply to the request that the bytes begin with; the link closes after it, or doesn't
pub record OwesReply {S : Type 0} (replies : Replies S) (point : Point S) (closes : Bool) (due : Due S) : Type 0 where
  pub came : Request
  pub rest : List ℕ
  pub arrives : Arrives point.stand.bytes (whole came rest)
  pub reply : Reply
  pub gets : replies point.stand.state (asked point.count came) reply due.state
  pub close : (asked point.count came).close ≡ closes
  pub bytes : due.bytes ≡ printed closes reply

-- the refusal of a head that the bytes begin with
pub record OwesRefusal {S : Type 0} (point : Point S) (due : Due S) : Type 0 where
  pub status : ℕ
  pub arrives : Arrives point.stand.bytes (refused status)
  pub bytes : due.bytes ≡ printed true (refusal status)
  pub same : due.state ≡ point.stand.state

-- a request or the refusal of a head, for which memory ran out
pub record OwesMemory {S : Type 0} (point : Point S) (due : Due S) : Type 0 where
  pub arrival : Arrival
  pub arrives : Arrives point.stand.bytes arrival
  pub answerable : ¬ (arrival ≡ partial)
  pub bytes : due.bytes ≡ memory_reply
  pub same : due.state ≡ point.stand.state

-- one of these
abbrev pub Owes : {S : Type 0} → Replies S → Point S → Due S → Type 0
Owes replies point due =
    ((closes : Bool) × OwesReply replies point closes due) ⊎ (OwesRefusal point due ⊎ OwesMemory point due)

-- what was written behind the last turn that was written whole, and the state in the end
pub record Tail (S : Type 0) : Type 0 where
  pub bytes : List ℕ
  pub state : S

-- nothing was written, and the state is as it was
pub record IsSilent {S : Type 0} (point : Point S) (tail : Tail S) : Type 0 where
  pub none : tail.bytes ≡ []
  pub same : tail.state ≡ point.stand.state

-- what was due was written whole
pub record IsWhole {S : Type 0} (due : Due S) (tail : Tail S) : Type 0 where
  pub bytes : tail.bytes ≡ due.bytes
  pub state : tail.state ≡ due.state

-- what was due was written in part, or not at all
pub record IsCut {S : Type 0} (due : Due S) (tail : Tail S) : Type 0 where
  pub unwritten : List ℕ
  pub bytes : due.bytes ≡ tail.bytes ++ unwritten
  pub lacks : 0 < length unwritten
  pub state : tail.state ≡ due.state

-- How a link ends at a point. A fault comes while the next request has come in part or not at all, or while what was due was being written.
abbrev pub Ends : {S : Type 0} → Replies S → LinkEnd → Point S → Tail S → Type 0
Ends replies End point tail = (point.stand.bytes ≡ []) × IsSilent point tail
Ends replies Inside point tail = (0 < length point.stand.bytes) × Arrives point.stand.bytes partial × IsSilent point tail
Ends replies Closed point tail =
    (due : Due _) × (OwesReply replies point true due ⊎ OwesRefusal point due) × IsWhole due tail
Ends replies Memory point tail = (due : Due _) × OwesMemory point due × IsWhole due tail
Ends replies Fault point tail =
    (IsSilent point tail × Arrives point.stand.bytes partial) ⊎ ((due : Due _) × Owes replies point due × IsCut due tail)

-- the link brought all its bytes where it ended by itself
abbrev pub ExchangesTo : LinkEnd → List ℕ → List ℕ → Links → Links → Type 0
ExchangesTo End = ExchangesAll
ExchangesTo Inside = ExchangesAll
ExchangesTo _ = Exchanges

-- the state and the links, before and after
pub record Course (S : Type 0) : Type 0 where
  pub before : S
  pub after : S
  pub links : Told

-- the open link was served to this end
pub record IsServed {S : Type 0} (replies : Replies S) (course : Course S) (end : LinkEnd) : Type 0 where
  pub came : List ℕ
  pub turns : List Turn
  pub between : Stand S
  pub tail : List ℕ
  pub done : Turns replies (record { state = course.before; bytes = came }) turns between
  pub few : length turns < most_requests
  pub ends :
      Ends replies end (record { stand = between; count = length turns }) (record { bytes = tail; state = course.after })
  pub links : BothTold (ExchangesTo end came (all_written turns ++ tail)) course.links.before course.links.after

-- and then shut
pub record Serves {S : Type 0} (replies : Replies S) (course : Course S) (end : LinkEnd) : Type 0 where
  pub open_links : Option Links
  pub served : IsServed replies (record course { links = record { before = course.links.before; after = open_links } }) end
  pub shut : course.links.after ≡ option_map after_shut open_links

-- a fault is told only where the door counted one
abbrev pub IfFault : LinkEnd → DoorState → DoorState → Type 0
IfFault Fault old new = DoorHasFailed old new
IfFault _ old new = ⊤
