-- Words of private clauses: what the steps of serving a link do.
use Rattle.std.specs.Prelude.{◌≡◌, ℕ, ◌⊎◌, List, [], ◌∷◌, Bool, true, false, Option, Some, None, ⊤}
use Rattle.edge_core.specs.Door.{DoorState, BothTold, Writes}
use Rattle.http_front.specs.Reply.{Reply, printed}
use Rattle.http_front.specs.Request.{Request}
use Rattle.link_core.specs.Exchange.{Told, TakesPart}
use Rattle.link_core.specs.Link.{Replies, Course, IfFault}
use Rattle.link_core.specs.Replies.{refusal, memory_reply}
use Rattle.link_core.specs.declared.end.LinkEnd.{LinkEnd}
use Rattle.link_core.specs.declared.end.LinkEnd.TheVariants.{End, Closed, Inside, Memory, Fault}

-- how a link ends whose input ended behind these bytes
abbrev pub input_end : List ℕ → LinkEnd
input_end [] = End
input_end (b ∷ bytes) = Inside

-- an end that a last reply makes
abbrev pub IsByReply : LinkEnd → Type 0
IsByReply Closed = ⊤
IsByReply Memory = ⊤
IsByReply _ = ⊥

-- bytes were written, and the link ends as it is to; or a part of them, and it ends by a fault
abbrev pub WritesLast : List ℕ → LinkEnd → LinkEnd → Told → Type 0
WritesLast bytes end result told =
    ((result ≡ end) × BothTold (Writes bytes) told.before told.after) ⊎ ((result ≡ Fault) × TakesPart bytes told)

-- a reply was written, after which the link closes, or doesn't and goes on
abbrev pub WritesReply : List ℕ → Bool → Option LinkEnd → Told → Type 0
WritesReply bytes true None told = ⊥
WritesReply bytes true (Some end) told = WritesLast bytes Closed end told
WritesReply bytes false None told = BothTold (Writes bytes) told.before told.after
WritesReply bytes false (Some end) told = (end ≡ Fault) × TakesPart bytes told

-- a request got a reply, which was written
pub record GetsReply {S : Type 0} (replies : Replies S) (request : Request) (course : Course S) (result : Option LinkEnd) : Type 0 where
  pub reply : Reply
  pub gets : replies course.before request reply course.after
  pub writes : WritesReply (printed request.close reply) request.close result course.links

-- the fixed reply was written, where memory ran out
pub record LacksMemory {S : Type 0} (course : Course S) (result : Option LinkEnd) : Type 0 where
  pub same : course.after ≡ course.before
  pub end : LinkEnd
  pub told : result ≡ Some end
  pub writes : WritesLast memory_reply Memory end course.links

-- one of the two
abbrev pub GivesReply : {S : Type 0} → Replies S → Request → Course S → Option LinkEnd → Type 0
GivesReply replies request course result = GetsReply replies request course result ⊎ LacksMemory course result

-- the refusal of a head was written, or the fixed reply where memory ran out
abbrev pub Refuses : ℕ → LinkEnd → Told → Type 0
Refuses status end told =
    WritesLast (printed true (refusal status)) Closed end told ⊎ WritesLast memory_reply Memory end told

-- the same of an end that may not be told yet
abbrev pub IfStops : Option LinkEnd → DoorState → DoorState → Type 0
IfStops None old new = ⊤
IfStops (Some end) old new = IfFault end old new
