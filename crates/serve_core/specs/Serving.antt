-- Serving the links of a door, one after another, and how it ends.
use Rattle.std.specs.Prelude.{◌≡◌, ℕ, ◌⊎◌, zero, suc, Option, Some, None, IsTrue}
use Rattle.edge_core.specs.Door.{Links, DoorState, DoorHasFailed, AsksToAttach, KeepsAttachment, BothTold, Accepts, FindsNone}
use Rattle.link_core.specs.Link.{Replies, Serves, IfFault}
use Rattle.link_core.specs.declared.end.LinkEnd.{LinkEnd}
use Rattle.link_core.specs.declared.end.LinkEnd.TheVariants as link
use Rattle.serve_core.specs.declared.plan.Plan.{Plan}
use Rattle.serve_core.specs.declared.plan.Plan.TheVariants.{Streams, Port}
use Rattle.serve_core.specs.declared.plan.ServeEnd.{ServeEnd}
use Rattle.serve_core.specs.declared.plan.ServeEnd.TheVariants.{Done, Inside, Memory, Fault}

-- where a plan attaches: at its port, or at the standard streams
abbrev pub port_of : Plan → Option ℕ
port_of Streams = None
port_of (Port port links) = Some port

-- how many links a plan takes at most
abbrev pub most_links : Plan → ℕ
most_links Streams = 1
most_links (Port port links) = links

-- How serving ends by the end of a link, if it does. Want of memory ends it. The link of the standard streams is all that there is, so
-- its faults are those of serving; at a port they end that link alone.
abbrev pub stopped_by : Plan → LinkEnd → Option ServeEnd
stopped_by plan link.Memory = Some Memory
stopped_by Streams link.Inside = Some Inside
stopped_by Streams link.Fault = Some Fault
stopped_by plan end = None

-- a moment of serving: the state of what answers, and what the door tells
pub record Moment (S : Type 0) : Type 0 where
  pub state : S
  pub door : DoorState

-- serving by a plan, from one moment to another
pub record Serving (S : Type 0) : Type 0 where
  pub plan : Plan
  pub before : Moment S
  pub after : Moment S

-- the next link was opened, served to this end, and shut
pub record TakesLink {S : Type 0} (replies : Replies S) (before : Moment S) (end : LinkEnd) (after : Moment S) : Type 0 where
  pub opened : Option Links
  pub accepts : BothTold Accepts before.door.links opened
  pub serves :
      Serves replies (record {
        before = before.state;
        after = after.state;
        links = record { before = opened; after = after.door.links };
      }) end
  pub failed : IfFault end before.door after.door

-- the next link was taken, and its end says how serving ends, if it does
pub record TakesNext {S : Type 0} (replies : Replies S) (serving : Serving S) (outcome : Option ServeEnd) : Type 0 where
  pub end : LinkEnd
  pub takes : TakesLink replies serving.before end serving.after
  pub decides : outcome ≡ stopped_by serving.plan end

-- no link was left
pub record FindsNoLink {S : Type 0} (serving : Serving S) (outcome : Option ServeEnd) : Type 0 where
  pub ends : outcome ≡ Some Done
  pub same : serving.after.state ≡ serving.before.state
  pub links : BothTold FindsNone serving.before.door.links serving.after.door.links

-- the next link couldn't be opened
pub record FailsToOpen {S : Type 0} (serving : Serving S) (outcome : Option ServeEnd) : Type 0 where
  pub ends : outcome ≡ Some Fault
  pub same : serving.after.state ≡ serving.before.state
  pub links : serving.after.door.links ≡ serving.before.door.links
  pub failed : DoorHasFailed serving.before.door serving.after.door

-- what came of the next link: serving ends so, or goes on behind it
pub record NextLink {S : Type 0} (replies : Replies S) (serving : Serving S) (outcome : Option ServeEnd) : Type 0 where
  pub comes : TakesNext replies serving outcome ⊎ (FindsNoLink serving outcome ⊎ FailsToOpen serving outcome)
  pub keeps : KeepsAttachment serving.before.door serving.after.door

-- at most so many links were taken, each from the state that the one before it left, and serving ended so
abbrev pub ServesLinks : {S : Type 0} → Replies S → ℕ → Serving S → ServeEnd → Type 0
ServesLinks replies zero serving end = (end ≡ Done) × (serving.after ≡ serving.before)
ServesLinks replies (suc n) serving end =
    NextLink replies serving (Some end)
    ⊎ ((between : Moment _) × NextLink replies (record serving { after = between }) None
    × ServesLinks replies n (record serving { before = between }) end)

-- the door was attached where the plan says, and its links were served
pub record ServesAttached {S : Type 0} (replies : Replies S) (serving : Serving S) (end : ServeEnd) : Type 0 where
  pub attached : DoorState
  pub asks : AsksToAttach (port_of serving.plan) serving.before.door attached
  pub is_attached : IsTrue attached.is_attached
  pub links :
      ServesLinks replies (most_links serving.plan)
      (record serving { before = record serving.before { door = attached } }) end

-- the door couldn't be attached there
pub record FailsToAttach {S : Type 0} (serving : Serving S) (end : ServeEnd) : Type 0 where
  pub ends : end ≡ Fault
  pub same : serving.after.state ≡ serving.before.state
  pub asks : AsksToAttach (port_of serving.plan) serving.before.door serving.after.door
  pub attached : serving.after.door.is_attached ≡ serving.before.door.is_attached
  pub failed : DoorHasFailed serving.before.door serving.after.door

-- one of the two
abbrev pub ServesDoor : {S : Type 0} → Replies S → Serving S → ServeEnd → Type 0
ServesDoor replies serving end = FailsToAttach serving end ⊎ ServesAttached replies serving end
