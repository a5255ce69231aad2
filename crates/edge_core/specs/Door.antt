-- Links: streams that bring bytes and take bytes, one after another.
use Rattle.std.specs.Prelude.{ℕ, ◌≡◌, ◌≤◌, ◌++◌, ◌||◌, Bool, true, false, List, [], ◌∷◌, Option, Some, None, length, drop, min, not, if◌then◌else◌, option_to_list, option_map, is_some, map}
use Rattle.edge_core.specs.Faults.{PlannedFaults, HasRisen, is_next_failing, after_call}
use Rattle.edge_core.specs.Room.{has_place}
use Rattle.edge_core.specs.declared.door.AskedPort.{AskedPort}
use Rattle.edge_core.specs.declared.door.AskedPort.TheVariants.{Never, Once, Again}

-- what a link brings from here on, and what was written to it
pub record Link : Type 0 where
  pub left : List ℕ
  pub written : List ℕ

-- the links that ended, the open one, and what those to come will bring
pub record Links : Type 0 where
  pub shut : List Link
  pub current : Option Link
  pub coming : List (List ℕ)

-- once attaching at this port, or with none at the standard streams, was asked for too
abbrev pub asked_also : Option ℕ → AskedPort → AskedPort
asked_also port Never = Once port
asked_also port _ = Again

-- What a door tells: whether it is attached, and at what it was asked to attach; whether a link is open; what the links bring
-- and what was written to them, where it is told (`None` claims nothing); and how many calls failed.
pub record DoorState : Type 0 where
  pub is_attached : Bool
  pub asked : AskedPort
  pub is_open : Bool
  pub links : Option Links
  pub fault_count : ℕ

-- some call of the door failed and was counted
abbrev pub DoorHasFailed : DoorState → DoorState → Type 0
DoorHasFailed old new = HasRisen old.fault_count new.fault_count

-- attaching there was asked for; no link is other than it was, and the count of faults never falls
pub record AsksToAttach (port : Option ℕ) (old new : DoorState) : Type 0 where
  pub asked : new.asked ≡ asked_also port old.asked
  pub open_as_before : new.is_open ≡ old.is_open
  pub links : new.links ≡ old.links
  pub count : old.fault_count ≤ new.fault_count

-- whether and at what the door is attached is as it was, and the count of faults never falls
pub record KeepsAttachment (old new : DoorState) : Type 0 where
  pub attached : new.is_attached ≡ old.is_attached
  pub asked : new.asked ≡ old.asked
  pub count : old.fault_count ≤ new.fault_count

-- all but the links' bytes is as it was, and the count of faults never falls
pub record KeepsDoor (old new : DoorState) : Type 0 where
  pub attachment : KeepsAttachment old new
  pub open_as_before : new.is_open ≡ old.is_open

-- both are told and related, or neither is told
abbrev pub BothTold : {A : Type 0} → (A → A → Type 0) → Option A → Option A → Type 0
BothTold R None None = Unit {0}
BothTold R None (Some new) = ⊥
BothTold R (Some old) None = ⊥
BothTold R (Some old) (Some new) = R old new

-- the first of the links to come is opened
pub record Accepts (old new : Links) : Type 0 where
  pub input : List ℕ
  pub was_next : old.coming ≡ input ∷ new.coming
  pub is_current : new.current ≡ Some (record { left = input; written = [] })
  pub same_shut : new.shut ≡ old.shut

-- no link is left, and nothing changes
pub record FindsNone (old new : Links) : Type 0 where
  pub no_more : old.coming ≡ []
  pub same : new ≡ old

-- the open link brought the piece, which is empty only at its end
pub record Reads (piece : List ℕ) (old new : Links) : Type 0 where
  pub left : List ℕ
  pub written : List ℕ
  pub before : old.current ≡ Some (record { left = piece ++ left; written = written })
  pub after : new ≡ record old { current = Some (record { left = left; written = written }) }
  pub at_end : piece ≡ [] → left ≡ []

-- the open link took the piece
pub record Writes (piece : List ℕ) (old new : Links) : Type 0 where
  pub left : List ℕ
  pub written : List ℕ
  pub before : old.current ≡ Some (record { left = left; written = written })
  pub after : new ≡ record old { current = Some (record { left = left; written = written ++ piece }) }

-- the open link is the last of those that ended
abbrev pub after_shut : Links → Links
after_shut links =
    record links { shut = links.shut ++ option_to_list links.current; current = None }

-- after that many bytes were read
abbrev pub after_bytes : ℕ → Link → Link
after_bytes n link = record link { left = drop n link.left }

-- links in memory: no read takes more than `cut` bytes, and `space` is the room for all that is written to a link
pub record MemoryDoorState : Type 0 where
  pub is_attached : Bool
  pub asked : AskedPort
  pub links : Links
  pub cut : ℕ
  pub space : ℕ
  pub faults : PlannedFaults

-- what a door in memory tells: all that it holds
abbrev pub told_by : MemoryDoorState → DoorState
told_by door =
    record {
      is_attached = door.is_attached;
      asked = door.asked;
      is_open = is_some door.links.current;
      links = Some door.links;
      fault_count = door.faults.count;
    }

abbrev pub after_attach : Option ℕ → MemoryDoorState → MemoryDoorState
after_attach port door =
    let failed = is_next_failing door.faults in
    record door {
      is_attached = door.is_attached || not failed;
      asked = asked_also port door.asked;
      faults = after_call door.faults failed;
    }

-- some link is still to come
abbrev pub has_next : List (List ℕ) → Bool
has_next [] = false
has_next (input ∷ coming) = true

-- the links once the first of those to come is opened, if there is one
abbrev pub with_next : List (List ℕ) → Links → Links
with_next [] links = links
with_next (input ∷ coming) links =
    record links { current = Some (record { left = input; written = [] }); coming = coming }

abbrev pub after_accept : MemoryDoorState → MemoryDoorState
after_accept door =
    let failed = is_next_failing door.faults in
    record door {
      links = if failed then door.links else with_next door.links.coming door.links;
      faults = after_call door.faults failed;
    }

-- what the open link still brings, and what was written to it
abbrev pub left_of : Option Link → List ℕ
left_of None = []
left_of (Some link) = link.left

abbrev pub written_of : Option Link → List ℕ
written_of None = []
written_of (Some link) = link.written

-- how many bytes a read into a room of that many takes
abbrev pub read_count : MemoryDoorState → ℕ → ℕ
read_count door room = min door.cut (min room (length (left_of door.links.current)))

abbrev pub after_read : MemoryDoorState → ℕ → MemoryDoorState
after_read door room =
    let failed = is_next_failing door.faults in
    let current = door.links.current in
    record door {
      links = record door.links { current = if failed then current else option_map (after_bytes (read_count door room)) current };
      faults = after_call door.faults failed;
    }

-- the next writing fails: it is to fail, or the link has no room left for the piece
abbrev pub write_fails : MemoryDoorState → List ℕ → Bool
write_fails door piece =
    is_next_failing door.faults || not (has_place (written_of door.links.current) door.space piece)

abbrev pub with_written : List ℕ → Link → Link
with_written piece link = record link { written = link.written ++ piece }

abbrev pub after_write : MemoryDoorState → List ℕ → MemoryDoorState
after_write door piece =
    let failed = write_fails door piece in
    let current = door.links.current in
    record door {
      links = record door.links { current = if failed then current else option_map (with_written piece) current };
      faults = after_call door.faults failed;
    }

-- what was written to each link, in order: nothing yet to those that are to come
abbrev pub all_written : Links → List (List ℕ)
all_written links =
    map (λ link. link.written) (links.shut ++ option_to_list links.current) ++ map (λ input. []) links.coming

-- what is known of a door of the system
pub record RealDoorState : Type 0 where
  pub is_attached : Bool
  pub asked : AskedPort
  pub is_open : Bool
  pub fault_count : ℕ

-- what a door of the system tells: not what its links bring and take
abbrev pub told_of_system : RealDoorState → DoorState
told_of_system door =
    record { is_attached = door.is_attached; asked = door.asked; is_open = door.is_open; links = None; fault_count = door.fault_count }
